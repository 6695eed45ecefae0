-- The answers to lines, one behind the other.
use Rattle.std.proofs.Common.{◌≡◌, ℕ, suc, ◌+◌, ◌<◌, ◌≤◌, List, [], ◌∷◌, ◌++◌, Option, None, Some, Result, Ok, Err, map, sym, ap, ◌∙◌, subst, append_assoc, append-nil, add-one, drop, drop-cons, get_or, length, refl}
use Rattle.std.proofs.lemmas.List.{drop_all}
use Rattle.kapi_text.specs.ResultIs.{Fails, ◌>>=◌}
use Rattle.kapi_lines.specs.Lines.{NumberedLine, line_of}
use Rattle.kapi_lines.specs.declared.line.Line.{Line}
use Rattle.kapi_policy.specs.Objects.{PolicyObjects}
use Rattle.kapi_access.specs.Lines.{LineError, answered, answered_lines}
use Rattle.kapi_lines.specs.declared.form.Form.{Form}

-- a text in front of the one that is given
abbrev pub prefixed : List ℕ → Result (List ℕ) LineError → Result (List ℕ) LineError
prefixed text given = given >>= λ rest. Ok (text ++ rest)

-- behind the text the lines from a place on give what all lines give
abbrev pub Answering : Form → PolicyObjects → List Line → ℕ → List ℕ → Type 0
Answering f objects lines i text = prefixed text (answered_lines f objects (map line_of (drop i lines))) ≡ answered_lines f objects (map line_of lines)

one_more : (f : Form) (objects : PolicyObjects) (text more : List ℕ) (l : NumberedLine) (ls : List NumberedLine) → answered f objects l ≡ Ok more
    → prefixed text (answered_lines f objects (l ∷ ls)) ≡ prefixed (text ++ more) (answered_lines f objects ls)
unfolding answered_lines
one_more f objects text more l ls is =
    let P : Result (List ℕ) LineError → Type 0 = λ r. prefixed text (r >>= λ t. (answered_lines f objects ls >>= λ rest. Ok (t ++ rest))) ≡ prefixed (text ++ more) (answered_lines f objects ls) in
    subst P (sym is) (by_rest (answered_lines f objects ls))
  where
    by_rest : (r : Result (List ℕ) LineError) → prefixed text (r >>= λ rest. Ok (more ++ rest)) ≡ prefixed (text ++ more) r
    by_rest (Ok rest) = ap Ok (sym (append_assoc text more rest))
    by_rest (Err e) = refl

one_bad : (f : Form) (objects : PolicyObjects) (text : List ℕ) (l : NumberedLine) (ls : List NumberedLine) (e : LineError) → answered f objects l ≡ Err e
    → prefixed text (answered_lines f objects (l ∷ ls)) ≡ Err e
unfolding answered_lines
one_bad f objects text l ls e is =
    let P : Result (List ℕ) LineError → Type 0 = λ r. prefixed text (r >>= λ t. (answered_lines f objects ls >>= λ rest. Ok (t ++ rest))) ≡ Err e in
    subst P (sym is) refl

-- a line more that is answered
pub answering_more : (f : Form) (objects : PolicyObjects) (lines : List Line) (i : ℕ) (d : Line) (text more : List ℕ) → i < length lines → Answering f objects lines i text
    → answered f objects (line_of (get_or lines i d)) ≡ Ok more → Answering f objects lines (i + 1) (text ++ more)
answering_more f objects lines i d text more below h is =
    let given : List Line → Result (List ℕ) LineError = λ ls. prefixed text (answered_lines f objects (map line_of ls)) in
    let said = sym (one_more f objects text more (line_of (get_or lines i d)) (map line_of (drop (suc i) lines)) is) ∙ ap given (sym (drop-cons lines i d below)) ∙ h in
    subst (λ n. Answering f objects lines n (text ++ more)) (sym (add-one i)) said

-- a line that is not
pub answering_bad : (f : Form) (objects : PolicyObjects) (lines : List Line) (i : ℕ) (d : Line) (text : List ℕ) (o : Option LineError) → i < length lines → Answering f objects lines i text
    → Fails o (answered f objects (line_of (get_or lines i d))) → Fails o (answered_lines f objects (map line_of lines))
answering_bad f objects lines i d text None below h fails = tt
answering_bad f objects lines i d text (Some e) below h fails =
    let given : List Line → Result (List ℕ) LineError = λ ls. prefixed text (answered_lines f objects (map line_of ls)) in
    sym h ∙ ap given (drop-cons lines i d below) ∙ one_bad f objects text (line_of (get_or lines i d)) (map line_of (drop (suc i) lines)) e fails

-- no line is left
pub answering_all : (f : Form) (objects : PolicyObjects) (lines : List Line) (i : ℕ) (text : List ℕ) → length lines ≤ i → Answering f objects lines i text
    → answered_lines f objects (map line_of lines) ≡ Ok text
unfolding answered_lines
answering_all f objects lines i text past h =
    let given : List Line → Result (List ℕ) LineError = λ ls. prefixed text (answered_lines f objects (map line_of ls)) in
    sym h ∙ ap given (drop_all i lines past) ∙ ap Ok (append-nil text)

-- the text is empty at first
pub answering_none : (f : Form) (objects : PolicyObjects) (lines : List Line) → Answering f objects lines 0 []
answering_none f objects lines = whole (answered_lines f objects (map line_of lines))
  where
    whole : (r : Result (List ℕ) LineError) → prefixed [] r ≡ r
    whole (Ok rest) = refl
    whole (Err e) = refl
