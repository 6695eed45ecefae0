-- Filters, one after the other.
use Rattle.std.proofs.Common.{◌≡◌, Bool, true, false, ◌&&◌, if◌then◌else◌, List, [], ◌∷◌, refl, sym, ap, ◌∙◌}
use Rattle.std.specs.List.{filter}

module _ {A : Type 0} (p q : A → Bool) where
  pub both_filters : (xs : List A) → filter (λ x. p x && q x) xs ≡ filter q (filter p xs)
  both_filters [] = refl
  both_filters (x ∷ xs) = by_test (p x) (both_filters xs)
    where
      by_test : (b : Bool) → filter (λ y. p y && q y) xs ≡ filter q (filter p xs)
          → (if b && q x then x ∷ filter (λ y. p y && q y) xs else filter (λ y. p y && q y) xs) ≡ filter q (if b then x ∷ filter p xs else filter p xs)
      by_test true rest = ap (λ l. if q x then x ∷ l else l) rest
      by_test false rest = rest

and_swaps : (a b : Bool) → (a && b) ≡ (b && a)
and_swaps true true = refl
and_swaps true false = refl
and_swaps false true = refl
and_swaps false false = refl

pub filters_swap : {A : Type 0} (p q : A → Bool) (xs : List A) → filter p (filter q xs) ≡ filter q (filter p xs)
filters_swap p q xs = sym (both_filters q p xs) ∙ ap (λ test. filter test xs) (λ i. λ x. and_swaps (q x) (p x) i) ∙ both_filters p q xs
