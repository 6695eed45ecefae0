-- The shares of readers, question by question.
use Rattle.std.proofs.Common.{◌≡◌, ℕ, suc, ◌+◌, List, [], ◌∷◌, ◌++◌, Option, Some, None, Result, Ok, Err, map, refl, sym, ap, ◌∙◌, subst, append_assoc, add-one, arith, ok_or, append-nil, drop, drop-cons, get_or, length, ◌<◌, ◌≤◌}
use Rattle.std.proofs.lemmas.List.{drop_all}
use Rattle.kapi_text.specs.ResultIs.{◌>>=◌}
use Rattle.kapi_audit.specs.Answers.{answered_by}
use Rattle.kapi_audit.specs.Faults.{AuditError, question_line}
use Rattle.kapi_lines.specs.Lines.{NumberedLine, line_of}
use Rattle.kapi_lines.specs.declared.line.Line.{Line}
use Rattle.kapi_audit.specs.Private.Sharing.{AreShares, share}

-- readers behind the first one: for each of them the next question is one nearer
nearer : {A : Type 0} (from end others : ℕ) (x : A) (xs : List A) (ss : List (List A)) → AreShares (suc from) (suc end) others (x ∷ xs) ss → AreShares from end others xs ss
unfolding AreShares share
nearer from end others x xs [] h = omega (arith, h)
nearer {A} from end others x xs (s ∷ ss) h =
    (h.0, subst (λ n. AreShares n end others xs ss) (sym (add-one from)) (nearer (suc from) end others x xs ss (subst (λ n. AreShares n (suc end) others (x ∷ xs) ss) (add-one (suc from)) h.1)))

-- the reader that has answered goes behind the others
behind : {A : Type 0} (from end others : ℕ) (xs : List A) (ss : List (List A)) → AreShares from end others xs ss → AreShares from (end + 1) others xs (ss ++ share end others xs ∷ [])
unfolding AreShares share
behind from end others xs [] h = rw h (refl, refl)
behind from end others xs (s ∷ ss) h = (h.0, behind (from + 1) end others xs ss h.1)

-- what is left of the shares when a question is answered
pub taken : {A : Type 0} (others : ℕ) (x : A) (xs : List A) (left : List (List A)) → AreShares 0 (others + 1) others (x ∷ xs) left
    → (rest : List (List A)) × (left ≡ (x ∷ share others others xs) ∷ rest) × AreShares 0 (others + 1) others xs (rest ++ share others others xs ∷ [])
unfolding AreShares share
taken others x xs [] h = absurd (omega (arith, h))
taken others x xs (s ∷ ss) h = (ss, ap (λ t. t ∷ ss) h.0, behind 0 others others xs ss (nearer 0 others others x xs ss (subst (λ n. AreShares 1 n others (x ∷ xs) ss) (add-one others) h.1)))

-- a text in front of the given one
abbrev pub prefixed : List ℕ → Result (List ℕ) AuditError → Result (List ℕ) AuditError
prefixed text given = given >>= λ rest. Ok (text ++ rest)

-- a line that is answered
pub answered_more : (answer : List ℕ → Option (List ℕ)) (text more : List ℕ) (l : NumberedLine) (ls : List NumberedLine) → answer l.text ≡ Some more
    → prefixed text (answered_by answer (l ∷ ls)) ≡ prefixed (text ++ more) (answered_by answer ls)
unfolding answered_by
answered_more answer text more l ls is =
    let P : Option (List ℕ) → Type 0 = λ o. prefixed text (ok_or o (question_line l.number) >>= λ t. (answered_by answer ls >>= λ rest. Ok (t ++ rest))) ≡ prefixed (text ++ more) (answered_by answer ls) in
    subst P (sym is) (by_rest (answered_by answer ls))
  where
    by_rest : (r : Result (List ℕ) AuditError) → prefixed text (r >>= λ rest. Ok (more ++ rest)) ≡ prefixed (text ++ more) r
    by_rest (Ok rest) = ap Ok (sym (append_assoc text more rest))
    by_rest (Err e) = refl

-- a line that is no question
pub not_answered : (answer : List ℕ → Option (List ℕ)) (text : List ℕ) (l : NumberedLine) (ls : List NumberedLine) → answer l.text ≡ None
    → prefixed text (answered_by answer (l ∷ ls)) ≡ Err (question_line l.number)
unfolding answered_by
not_answered answer text l ls is =
    let P : Option (List ℕ) → Type 0 = λ o. prefixed text (ok_or o (question_line l.number) >>= λ t. (answered_by answer ls >>= λ rest. Ok (t ++ rest))) ≡ Err (question_line l.number) in
    subst P (sym is) refl

-- the answers of the lines from a place on are in the shares that are left; behind the text they make all answers
abbrev pub Gathering : (List ℕ → Option (List ℕ)) → ℕ → List Line → ℕ → List (List (Option (List ℕ))) → List ℕ → Type 0
Gathering answer others lines i left text =
    AreShares 0 (others + 1) others (map (λ l. answer l.text.now) (drop i lines)) left
    × (prefixed text (answered_by answer (map line_of (drop i lines))) ≡ answered_by answer (map line_of lines))

-- the first of the first share was found, and that share is behind the others
abbrev pub Moves : List (List (Option (List ℕ))) → Option (List ℕ) → List (List (Option (List ℕ))) → Type 0
Moves left found next = (answer : Option (List ℕ)) (later : List (Option (List ℕ))) (others : List (List (Option (List ℕ)))) → left ≡ (answer ∷ later) ∷ others
    → (found ≡ answer) × (next ≡ others ++ later ∷ [])

-- what was found is the line's own
found_at : (answer : List ℕ → Option (List ℕ)) (others : ℕ) (lines : List Line) (i : ℕ) (d : Line) (left next : List (List (Option (List ℕ)))) (found : Option (List ℕ)) (text : List ℕ)
    → i < length lines → Gathering answer others lines i left text → Moves left found next
    → (found ≡ answer (get_or lines i d).text.now) × AreShares 0 (others + 1) others (map (λ l. answer l.text.now) (drop (suc i) lines)) next
found_at answer others lines i d left next found text below h moves =
    let l = get_or lines i d in
    let xs = map (λ k. answer k.text.now) (drop (suc i) lines) in
    let P : List Line → Type 0 = λ ls. AreShares 0 (others + 1) others (map (λ k. answer k.text.now) ls) left in
    let t = taken others (answer l.text.now) xs left (subst P (drop-cons lines i d below) h.0) in
    let m = moves _ _ _ t.1 in
    (m.0, subst (λ s. AreShares 0 (others + 1) others xs s) (sym m.1) t.2)

-- the answer at a place where there is no line
abbrev pub no_line : Line
no_line = record { number = 0; text = record { ref_ptr = (0, 0); now = [] } }

pub gathered_more : (answer : List ℕ → Option (List ℕ)) (others : ℕ) (lines : List Line) (i : ℕ) (left next : List (List (Option (List ℕ)))) (found : Option (List ℕ)) (text more : List ℕ)
    → i < length lines → Gathering answer others lines i left text → Moves left found next → found ≡ Some more → Gathering answer others lines (i + 1) next (text ++ more)
gathered_more answer others lines i left next found text more below h moves is =
    let k = found_at answer others lines i no_line left next found text below h moves in
    let given : List Line → Result (List ℕ) AuditError = λ ls. prefixed text (answered_by answer (map line_of ls)) in
    let said = sym (answered_more answer text more (line_of (get_or lines i no_line)) (map line_of (drop (suc i) lines)) (sym k.0 ∙ is)) ∙ ap given (sym (drop-cons lines i no_line below)) ∙ h.1 in
    subst (λ n. Gathering answer others lines n next (text ++ more)) (sym (add-one i)) (k.1, said)

pub gathered_bad : (answer : List ℕ → Option (List ℕ)) (others : ℕ) (lines : List Line) (i : ℕ) (d : Line) (left next : List (List (Option (List ℕ)))) (found : Option (List ℕ)) (text : List ℕ)
    → i < length lines → Gathering answer others lines i left text → Moves left found next → found ≡ None
    → answered_by answer (map line_of lines) ≡ Err (question_line (get_or lines i d).number)
gathered_bad answer others lines i d left next found text below h moves is =
    let k = found_at answer others lines i d left next found text below h moves in
    let given : List Line → Result (List ℕ) AuditError = λ ls. prefixed text (answered_by answer (map line_of ls)) in
    sym h.1 ∙ ap given (drop-cons lines i d below) ∙ not_answered answer text (line_of (get_or lines i d)) (map line_of (drop (suc i) lines)) (sym k.0 ∙ is)

pub gathered_all : (answer : List ℕ → Option (List ℕ)) (others : ℕ) (lines : List Line) (i : ℕ) (left : List (List (Option (List ℕ)))) (text : List ℕ)
    → length lines ≤ i → Gathering answer others lines i left text → answered_by answer (map line_of lines) ≡ Ok text
unfolding answered_by
gathered_all answer others lines i left text past h =
    let given : List Line → Result (List ℕ) AuditError = λ ls. prefixed text (answered_by answer (map line_of ls)) in
    sym h.1 ∙ ap given (drop_all i lines past) ∙ ap Ok (append-nil text)
