-- The parts of a text between its line ends, and their numbers.
use Rattle.std.proofs.Common.{◌≡◌, ◌==◌, ℕ, suc, ◌+◌, All, false, List, [], ◌∷◌, ◌++◌, refl, sym, ap, ◌∙◌, subst, take, drop, get_or, drop-cons, add-one, append-nil, append_assoc, ◌<◌, ◌≤◌, length}
use Rattle.std.proofs.lemmas.List.{take_all, take_more, take-append-drop}
use Rattle.std.proofs.lemmas.List.Elements.{All-append, All-cons, All-nil}
use Rattle.std.proofs.lemmas.List.Splits.{slice_split_at, slice_split_none}
use Rattle.kapi_lines.specs.Lines.{NumberedLine, numbered, numbered_from, parts_of}

-- no line ends among the bytes
abbrev pub HasNoEnd : List ℕ → Type 0
HasNoEnd text = All (λ b. (b == 10) ≡ false) text

-- one byte more that ends no line
pub no_end_yet : (text : List ℕ) (i : ℕ) → HasNoEnd (take i text) → i < length text → (get_or text i 0 == 10) ≡ false → HasNoEnd (take (i + 1) text)
no_end_yet text i none below other =
    let P : ℕ → Type 0 = λ b. (b == 10) ≡ false in
    subst HasNoEnd (sym (take_more text i 0 below)) (All-append P (take i text) (get_or text i 0 ∷ []) none (All-cons P (get_or text i 0) [] other (All-nil P)))

-- a text without an end is one line
pub whole_line : (text : List ℕ) (i : ℕ) → HasNoEnd (take i text) → length text ≤ i → parts_of text ≡ text ∷ []
whole_line text i none past = slice_split_none (λ b. b == 10) text (subst HasNoEnd (take_all i text past) none)

-- the first line, and the text behind its end
pub first_line : (text : List ℕ) (i : ℕ) → HasNoEnd (take i text) → i < length text → get_or text i 0 ≡ 10
    → parts_of text ≡ take i text ∷ parts_of (drop (i + 1) text)
first_line text i none below end =
    let there : parts_of text ≡ take i text ∷ parts_of (drop (suc i) text) =
    ap parts_of (sym (take-append-drop i text) ∙ ap (λ l. take i text ++ l) (drop-cons text i 0 below))
    ∙ slice_split_at (λ b. b == 10) (take i text) (get_or text i 0) (drop (suc i) text) none (rw end refl) in
    rw add-one there

-- one line more is kept
pub line_kept : (whole kept more : List NumberedLine) (n : ℕ) (line : List ℕ) (parts later : List (List ℕ)) → kept ++ numbered_from n parts ≡ whole
    → parts ≡ line ∷ later → more ≡ kept ++ numbered n line → more ++ numbered_from (n + 1) later ≡ whole
unfolding numbered_from
line_kept whole kept more n line parts later before is next =
    ap (λ l. l ++ numbered_from (n + 1) later) next ∙ append_assoc kept (numbered n line) (numbered_from (n + 1) later)
    ∙ ap (λ l. kept ++ numbered_from n l) (sym is) ∙ before

-- the last line is kept
pub last_kept : (whole kept more : List NumberedLine) (n : ℕ) (line : List ℕ) (parts : List (List ℕ)) → kept ++ numbered_from n parts ≡ whole
    → parts ≡ line ∷ [] → more ≡ kept ++ numbered n line → more ≡ whole
unfolding numbered_from
last_kept whole kept more n line parts before is next =
    sym (append-nil more) ∙ line_kept whole kept more n line parts [] before is next
