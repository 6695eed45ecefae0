-- Tests of elements under a view.
use Rattle.std.proofs.Common.{◌≡◌, ◌||◌, List, [], ◌∷◌, Bool, ap, map, refl}
use Rattle.std.specs.List.{list_any}

pub any_of_views : {X Y : Type 0} (p : Y → Bool) (f : X → Y) (xs : List X) → list_any p (map f xs) ≡ list_any (λ x. p (f x)) xs
any_of_views p f [] = refl
any_of_views p f (x ∷ xs) = ap (λ b. p (f x) || b) (any_of_views p f xs)
