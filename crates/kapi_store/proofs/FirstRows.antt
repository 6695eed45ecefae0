-- The first resource type of each name is where its position says.
use Rattle.std.proofs.Common.{◌≡◌, if◌then◌else◌, ◌∷◌, [], ℕ, Bool, true, false, cond, List, Option, None, Some, find, take, drop, refl, sym, ap, ◌∙◌}
use Rattle.std.specs.BTreeMap.{BTreeMap, Updates}
use Rattle.std.specs.Cmp.Lexicographic.{slice_cmp}
use Rattle.std.specs.List.{list_any}
use Rattle.std.specs.Option.{is_some, option_or, unwrap_or}
use Rattle.std.specs.Ordering.{nat_cmp}
use Rattle.std.specs.Str.{bytes_eq}
use Rattle.std.proofs.lemmas.Bool.{or_parts}
use Rattle.std.proofs.lemmas.List.{take-append-drop}
use Rattle.std.proofs.lemmas.List.Folds.{find-append}
use Rattle.std.proofs.lemmas.Map.Text.{is_eq-slice_cmp}
use Rattle.std.proofs.lemmas.Slice.Eq.{bytes_eq-Decides}
use Rattle.kapi_store.specs.Private.FirstRows.{StartsAlso, first_at}

is_none_of : (o : Option ℕ) → is_some o ≡ false → o ≡ None
is_none_of None e = refl
is_none_of (Some n) e = absurd (cc e)

kept : (o : Option ℕ) (position : ℕ) → is_some o ≡ true → o ≡ Some (unwrap_or o position)
kept None position e = absurd (cc e)
kept (Some n) position e = refl

-- what is among none of the wider is among none of the narrower
none_found : {X : Type 0} (p q : X → Bool) → ((x : X) → p x ≡ true → q x ≡ true) → (xs : List X) → list_any q xs ≡ false → find p xs ≡ None
none_found p q wider [] none = refl
none_found p q wider (x ∷ xs) none = by_case (p x) refl (none_found p q wider xs (or_parts (q x) (list_any q xs) none).1)
  where
    by_case : (b : Bool) → p x ≡ b → find p xs ≡ None → find p (x ∷ xs) ≡ None
    by_case true e rest = absurd (cc (sym (wider x e) ∙ (or_parts (q x) (list_any q xs) none).0))
    by_case false e rest = ap (λ b. cond b (Some x) (find p xs)) e ∙ rest

-- a search may begin behind those that the wider is not among
pub found_from : {X : Type 0} (p q : X → Bool) → ((x : X) → p x ≡ true → q x ≡ true) → (xs : List X) (n : ℕ) → list_any q (take n xs) ≡ false → find p (drop n xs) ≡ find p xs
found_from p q wider xs n none =
    sym (ap (find p) (sym (take-append-drop n xs)) ∙ find-append p (take n xs) (drop n xs) ∙ ap (λ o. option_or o (find p (drop n xs))) (none_found p q wider (take n xs) none))

-- the text is that of a row; its name had no position and has the position of the row now
pub put_first : (old new : BTreeMap (List ℕ) ℕ) (plural key : List ℕ) (position : ℕ) → key ≡ plural → is_some (first_at old plural) ≡ false
    → Updates (slice_cmp nat_cmp) old new key (Some position) → StartsAlso old new plural position
put_first old new plural key position is none updates p = by_case (bytes_eq plural p) refl
  where
    found : first_at new p ≡ cond (bytes_eq plural p) (Some position) (first_at old p)
    found = updates.0 p ∙ ap (λ b. cond b (Some position) (first_at old p)) (is_eq-slice_cmp key p ∙ ap (λ k. bytes_eq k p) is)

    by_case : (b : Bool) → bytes_eq plural p ≡ b → first_at new p ≡ (if bytes_eq plural p then Some (unwrap_or (first_at old p) position) else first_at old p)
    by_case true e =
        let nothing : first_at old p ≡ None = ap (first_at old) (sym ((bytes_eq-Decides plural p).0 e)) ∙ is_none_of (first_at old plural) none in
        found ∙ ap (λ b. cond b (Some position) (first_at old p)) e
        ∙ sym (ap (λ b. cond b (Some (unwrap_or (first_at old p) position)) (first_at old p)) e ∙ ap (λ o. Some (unwrap_or o position)) nothing)
    by_case false e =
        found ∙ ap (λ b. cond b (Some position) (first_at old p)) e
        ∙ sym (ap (λ b. cond b (Some (unwrap_or (first_at old p) position)) (first_at old p)) e)
