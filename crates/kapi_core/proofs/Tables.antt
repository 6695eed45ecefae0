-- Tests over lists that were mapped.
use Rattle.std.proofs.Common.{◌≡◌, Bool, ◌&&◌, ◌||◌, List, [], ◌∷◌, map, refl, ap}
use Rattle.std.specs.List.{list_all, list_any}

module _ {X Y : Type 0} where
  pub all_mapped : (p : Y → Bool) (f : X → Y) (xs : List X) → list_all p (map f xs) ≡ list_all (λ x. p (f x)) xs
  all_mapped p f [] = refl
  all_mapped p f (x ∷ xs) = ap (λ b. p (f x) && b) (all_mapped p f xs)

  pub any_mapped : (p : Y → Bool) (f : X → Y) (xs : List X) → list_any p (map f xs) ≡ list_any (λ x. p (f x)) xs
  any_mapped p f [] = refl
  any_mapped p f (x ∷ xs) = ap (λ b. p (f x) || b) (any_mapped p f xs)
