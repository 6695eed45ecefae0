-- A text is two others joined where it begins with the first and goes on with the second.
use Rattle.std.proofs.Common.{◌≡◌, ℕ, List, [], ◌∷◌, ◌++◌, length, drop, Bool, true, false, ◌&&◌, nat_eq, refl, arith, ap, ◌∙◌}
use Rattle.std.specs.List.{starts_with}
use Rattle.std.specs.Str.{bytes_eq}
use Rattle.std.proofs.lemmas.Bool.Decides.{nat_tests}

eq_comm : (x y : ℕ) → nat_eq x y ≡ nat_eq y x
eq_comm x y = grind (arith, nat_tests)

and_swapped : (a b c : Bool) → (a && (b && c)) ≡ ((a && b) && c)
and_swapped true b c = refl
and_swapped false b c = refl

pub bytes_eq_append : (xs ys zs : List ℕ) → bytes_eq xs (ys ++ zs) ≡ (starts_with nat_eq xs ys && bytes_eq (drop (length ys) xs) zs)
bytes_eq_append xs [] zs = refl
bytes_eq_append [] (y ∷ ys) zs = refl
bytes_eq_append (x ∷ xs) (y ∷ ys) zs =
    ap (λ b. nat_eq x y && b) (bytes_eq_append xs ys zs)
    ∙ and_swapped (nat_eq x y) (starts_with nat_eq xs ys) (bytes_eq (drop (length ys) xs) zs)
    ∙ ap (λ b. (b && starts_with nat_eq xs ys) && bytes_eq (drop (length ys) xs) zs) (eq_comm x y)
