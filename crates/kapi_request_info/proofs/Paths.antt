-- The last segment of a path.
use Rattle.std.proofs.Common.{◌≡◌, ℕ, ◌==◌, if◌then◌else◌, Bool, true, false, List, [], ◌∷◌, ◌++◌, length, refl, ap, ◌∙◌}
use Rattle.kapi_request_info.specs.Path.{without_last_empty}

-- a segment in front of either list
cons_cases : (b : Bool) (x : List ℕ) (xs ys : List (List ℕ)) → x ∷ (if b then xs else ys) ≡ (if b then x ∷ xs else x ∷ ys)
cons_cases true x xs ys = refl
cons_cases false x xs ys = refl

pub without_last_empty_append : (xs : List (List ℕ)) (s : List ℕ) → without_last_empty (xs ++ s ∷ []) ≡ (if length s == 0 then xs else xs ++ s ∷ [])
unfolding without_last_empty
without_last_empty_append [] s = refl
without_last_empty_append (x ∷ []) s = cons_cases (length s == 0) x [] (s ∷ [])
without_last_empty_append (x ∷ y ∷ ys) s =
    ap (λ r. x ∷ r) (without_last_empty_append (y ∷ ys) s) ∙ cons_cases (length s == 0) x (y ∷ ys) ((y ∷ ys) ++ s ∷ [])
