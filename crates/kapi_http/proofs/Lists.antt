-- Lists of words in a field's value.
use Rattle.std.proofs.Common.{◌≡◌, ℕ, ◌+◌, ◌<◌, Bool, true, false, List, [], ◌∷◌, ◌++◌, length, take, drop, reverse, refl, sym, ap, subst, ◌∙◌, arith, suc, Some, None, add-one}
use Rattle.std.proofs.lemmas.List.{reverse-append, reverse-reverse}
use Rattle.std.specs.List.{slice_split, position_from}
use Rattle.httparse.specs.Grammar.{is_ows, skip_ows, trim_ows}

-- what ends in a byte that is no white space keeps its end
pub trimmed_ends : (rest item f : List ℕ) (x : ℕ) → rest ≡ f ++ x ∷ [] → is_ows x ≡ false
    → skip_ows (reverse rest) ≡ skip_ows (reverse (skip_ows item)) → rest ≡ trim_ows item
unfolding trim_ows
trimmed_ends rest item f x is none same =
    let turned : reverse rest ≡ x ∷ reverse f = ap reverse is ∙ reverse-append f (x ∷ []) in
    let kept : skip_ows (reverse rest) ≡ reverse rest = rw (turned, none) refl in
    sym (reverse-reverse rest) ∙ ap reverse (sym kept ∙ same)

-- a list without elements is the empty one
pub none_in : (xs : List ℕ) → length xs ≡ 0 → xs ≡ []
none_in [] e = refl
none_in (x ∷ xs) e = absurd (omega arith)

-- a text that is empty after the trim was white space alone
pub trimmed_empty : (rest item : List ℕ) → length rest ≡ 0
    → skip_ows (reverse rest) ≡ skip_ows (reverse (skip_ows item)) → rest ≡ trim_ows item
unfolding trim_ows
trimmed_empty rest item none same = let is = none_in rest none in is ∙ ap reverse (ap (λ r. skip_ows (reverse r)) (sym is) ∙ same)

module _ (p : ℕ → Bool) where
  -- where no byte passes there is one part
  pub split_none : (xs : List ℕ) (k : ℕ) → position_from p k xs ≡ None → slice_split p xs ≡ xs ∷ []
  split_none [] k e = refl
  split_none (x ∷ xs) k e = by_test (p x) refl (split_none xs (k + 1))
    where
      by_test : (b : Bool) → p x ≡ b → (position_from p (k + 1) xs ≡ None → slice_split p xs ≡ xs ∷ [])
          → slice_split p (x ∷ xs) ≡ (x ∷ xs) ∷ []
      by_test true t more = absurd (let found = rw t at e in cc)
      by_test false t more = let none = rw t at e in rw (t, more none) refl

  -- the first part ends at the first byte that passes
  pub split_first : (xs : List ℕ) (k i : ℕ) → position_from p k xs ≡ Some i
      → (j : ℕ) × (i ≡ k + j) × (j < length xs) × (slice_split p xs ≡ take j xs ∷ slice_split p (drop (suc j) xs))
  split_first [] k i e = absurd cc
  split_first (x ∷ xs) k i e = by_test (p x) refl (split_first xs (k + 1) i)
    where
      by_test : (b : Bool) → p x ≡ b
          → (position_from p (k + 1) xs ≡ Some i
          → (j : ℕ) × (i ≡ k + 1 + j) × (j < length xs) × (slice_split p xs ≡ take j xs ∷ slice_split p (drop (suc j) xs)))
          → (j : ℕ) × (i ≡ k + j) × (j < length (x ∷ xs)) × (slice_split p (x ∷ xs) ≡ take j (x ∷ xs) ∷ slice_split p (drop (suc j) (x ∷ xs)))
      by_test true t more =
          let found = rw t at e in
          let same : k ≡ i = cc in (0, omega arith, omega arith, rw t refl)
      by_test false t more =
          let after = rw t at e in
          let rest = more after in
          (suc rest.0, omega (arith, rest.1), omega (arith, rest.2), rw (t, rest.3) refl)

  pub split_found : (xs : List ℕ) (i : ℕ) → position_from p 0 xs ≡ Some i → slice_split p xs ≡ take i xs ∷ slice_split p (drop (i + 1) xs)
  split_found xs i e =
      let found = split_first xs 0 i e in
      let same : found.0 ≡ i = omega (arith, found.1) in
      let P : ℕ → Type 0 = λ j. slice_split p xs ≡ take j xs ∷ slice_split p (drop (j + 1) xs) in
      subst P same (rw (add-one) found.3)

  pub split_not_found : (xs : List ℕ) → position_from p 0 xs ≡ None → slice_split p xs ≡ xs ∷ []
  split_not_found xs e = split_none xs 0 e
