-- Items of lists.
use Rattle.std.proofs.Common.{◌≡◌, ◌⊎◌, inl, inr, List, [], ◌∷◌, ◌++◌, Bool, true, false, ◌&&◌, ◌||◌, refl}
use Rattle.std.specs.List.{flat_map, list_all, list_any}
use Rattle.kapi_aggregation.specs.Members.{Has}

-- ---- joined lists

pub has_left : {X : Type 0} (xs ys : List X) (x : X) → Has xs x → Has (xs ++ ys) x
has_left [] ys x has = absurd has
has_left (y ∷ xs) ys x (inl same) = inl same
has_left (y ∷ xs) ys x (inr has) = inr (has_left xs ys x has)

pub has_right : {X : Type 0} (xs ys : List X) (x : X) → Has ys x → Has (xs ++ ys) x
has_right [] ys x has = has
has_right (y ∷ xs) ys x has = inr (has_right xs ys x has)

later : {X : Type 0} (y : X) (xs ys : List X) (x : X) → Has xs x ⊎ Has ys x → Has (y ∷ xs) x ⊎ Has ys x
later y xs ys x (inl has) = inl (inr has)
later y xs ys x (inr has) = inr has

pub has_either : {X : Type 0} (xs ys : List X) (x : X) → Has (xs ++ ys) x → Has xs x ⊎ Has ys x
has_either [] ys x has = inr has
has_either (y ∷ xs) ys x (inl same) = inl (inl same)
has_either (y ∷ xs) ys x (inr has) = later y xs ys x (has_either xs ys x has)

-- ---- mapped lists

module _ {X Y : Type 0} (f : X → List Y) where
  pub has_part : (xs : List X) (x : X) (y : Y) → Has xs x → Has (f x) y → Has (flat_map f xs) y
  has_part [] x y has part = absurd has
  has_part (z ∷ xs) x y (inl same) part = has_left (f z) (flat_map f xs) y (rw same part)
  has_part (z ∷ xs) x y (inr has) part = has_right (f z) (flat_map f xs) y (has_part xs x y has part)

  pub part_of : (xs : List X) (y : Y) → Has (flat_map f xs) y → (x : X) × (Has xs x × Has (f x) y)
  part_of [] y has = absurd has
  part_of (x ∷ xs) y has = by_case (has_either (f x) (flat_map f xs) y has) (λ there. part_of xs y there)
    where
      by_case : Has (f x) y ⊎ Has (flat_map f xs) y → (Has (flat_map f xs) y → (z : X) × (Has xs z × Has (f z) y)) → (z : X) × (Has (x ∷ xs) z × Has (f z) y)
      by_case (inl here) more = (x, (inl refl, here))
      by_case (inr there) more = let rest = more there in (rest.0, (inr rest.1.0, rest.1.1))

-- ---- tests

module _ {X : Type 0} (p : X → Bool) where
  -- where a test is passed some item passes it
  pub passing : (xs : List X) → list_any p xs ≡ true → (x : X) × (Has xs x × (p x ≡ true))
  passing [] some = absurd (cc some)
  passing (y ∷ ys) some = by_case (p y) refl (λ rest. passing ys rest) some
    where
      by_case : (b : Bool) → p y ≡ b → (list_any p ys ≡ true → (x : X) × (Has ys x × (p x ≡ true))) → (b || list_any p ys) ≡ true → (x : X) × (Has (y ∷ ys) x × (p x ≡ true))
      by_case true is more h = (y, (inl refl, is))
      by_case false is more h = let rest = more h in (rest.0, (inr rest.1.0, rest.1.1))

  -- a test that all pass is passed by one of them
  pub each_passes : (xs : List X) (x : X) → list_all p xs ≡ true → Has xs x → p x ≡ true
  each_passes [] x all has = absurd has
  each_passes (y ∷ ys) x all has = by_case (p y) refl (λ rest there. each_passes ys x rest there) all has
    where
      by_case : (b : Bool) → p y ≡ b → (list_all p ys ≡ true → Has ys x → p x ≡ true) → (b && list_all p ys) ≡ true → Has (y ∷ ys) x → p x ≡ true
      by_case true is more h (inl same) = rw (← same) is
      by_case true is more h (inr there) = more h there
      by_case false is more h there = absurd (cc h)
