-- A reader's share, line by line.
use Rattle.std.proofs.Common.{◌≡◌, ℕ, zero, suc, ◌+◌, List, [], ◌∷◌, ◌++◌, Option, map, refl, sym, ap, ◌∙◌, subst, append_assoc, append-nil, add-one, drop, drop-cons, get_or, length, ◌<◌, ◌≤◌}
use Rattle.std.proofs.lemmas.List.{drop_all}
use Rattle.kapi_audit.specs.Private.Sharing.{share}
use Rattle.kapi_lines.specs.declared.line.Line.{Line}

-- what is answered, and behind it the answers to the share of the rest, are the answers to the whole share
abbrev pub Shared : (List ℕ → Option (List ℕ)) → ℕ → ℕ → List Line → ℕ → ℕ → List (Option (List ℕ)) → Type 0
Shared answer number others lines i wait answers =
    answers ++ map (λ l. answer l.text.now) (share wait others (drop i lines)) ≡ map (λ l. answer l.text.now) (share number others lines)

pub answered_one : (answer : List ℕ → Option (List ℕ)) (number others : ℕ) (lines : List Line) (i : ℕ) (d : Line) (answers : List (Option (List ℕ))) → i < length lines
    → Shared answer number others lines i 0 answers → Shared answer number others lines (i + 1) others (answers ++ answer (get_or lines i d).text.now ∷ [])
unfolding share
answered_one answer number others lines i d answers below h =
    let f : Line → Option (List ℕ) = λ l. answer l.text.now in
    let now = f (get_or lines i d) in
    let rest = map f (share others others (drop (suc i) lines)) in
    let there : (answers ++ now ∷ []) ++ rest ≡ map f (share number others lines) =
    append_assoc answers (now ∷ []) rest ∙ ap (λ ls. answers ++ map f (share 0 others ls)) (sym (drop-cons lines i d below)) ∙ h in
    subst (λ n. Shared answer number others lines n others (answers ++ now ∷ [])) (sym (add-one i)) there

pub passed_one : (answer : List ℕ → Option (List ℕ)) (number others : ℕ) (lines : List Line) (i wait : ℕ) (d : Line) (answers : List (Option (List ℕ))) → i < length lines
    → Shared answer number others lines i (suc wait) answers → Shared answer number others lines (i + 1) wait answers
unfolding share
passed_one answer number others lines i wait d answers below h =
    let f : Line → Option (List ℕ) = λ l. answer l.text.now in
    let there : answers ++ map f (share wait others (drop (suc i) lines)) ≡ map f (share number others lines) =
    ap (λ ls. answers ++ map f (share (suc wait) others ls)) (sym (drop-cons lines i d below)) ∙ h in
    subst (λ n. Shared answer number others lines n wait answers) (sym (add-one i)) there

pub shared_all : (answer : List ℕ → Option (List ℕ)) (number others : ℕ) (lines : List Line) (i wait : ℕ) (answers : List (Option (List ℕ))) → length lines ≤ i
    → Shared answer number others lines i wait answers → answers ≡ map (λ l. answer l.text.now) (share number others lines)
unfolding share
shared_all answer number others lines i wait answers past h =
    let f : Line → Option (List ℕ) = λ l. answer l.text.now in
    sym (append-nil answers) ∙ ap (λ ls. answers ++ map f ls) (sym (none wait)) ∙ ap (λ ls. answers ++ map f (share wait others ls)) (sym (drop_all i lines past)) ∙ h
  where
    none : (w : ℕ) → share {A = Line} w others [] ≡ []
    none zero = refl
    none (suc w) = refl

-- the answers to a share, by the answer that was found
pub answered_at : (answer : List ℕ → Option (List ℕ)) (number others : ℕ) (lines : List Line) (i wait : ℕ) (d : Line) (answers more : List (Option (List ℕ))) (found : Option (List ℕ)) → i < length lines → wait ≡ 0
    → Shared answer number others lines i wait answers → found ≡ answer (get_or lines i d).text.now → more ≡ answers ++ found ∷ [] → Shared answer number others lines (i + 1) others more
answered_at answer number others lines i wait d answers more found below none h is longer =
    subst (λ xs. Shared answer number others lines (i + 1) others xs) (sym (longer ∙ ap (λ x. answers ++ x ∷ []) is))
    (answered_one answer number others lines i d answers below (subst (λ w. Shared answer number others lines i w answers) none h))
