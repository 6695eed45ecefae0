-- Elements of lists, and tests on them.
use Rattle.std.proofs.Common.{◌≡◌, inl, inr, ℕ, List, [], ◌∷◌, Bool, true, false, cond, ◌&&◌, ◌||◌, refl, ap, map}
use Rattle.std.proofs.lemmas.Slice.Eq.{bytes_eq-Decides}
use Rattle.std.specs.List.{AllByRecursion, filter, list_any}
use Rattle.std.specs.Str.{bytes_eq}
use Rattle.std.proofs.lemmas.Bool.{or_parts, or_left, or_right}
use Rattle.kapi_aggregation.specs.Members.{Has}

module _ {X : Type 0} (P : X → Type 0) where
  -- what holds of each holds of one of them
  pub all_at : (xs : List X) (x : X) → AllByRecursion P xs → Has xs x → P x
  all_at [] x all has = absurd has
  all_at (y ∷ ys) x all (inl same) = rw (← same) all.0
  all_at (y ∷ ys) x all (inr has) = all_at ys x all.1 has

  pub all_from : (xs : List X) → ((x : X) → Has xs x → P x) → AllByRecursion P xs
  all_from [] each = tt
  all_from (y ∷ ys) each = (each y (inl refl), all_from ys (λ x has. each x (inr has)))

module _ {X : Type 0} (p : X → Bool) where
  -- no item passes
  pub none_at : (xs : List X) (x : X) → list_any p xs ≡ false → Has xs x → p x ≡ false
  none_at [] x fails has = absurd has
  none_at (y ∷ ys) x fails (inl same) = rw (← same) (or_parts (p y) (list_any p ys) fails).0
  none_at (y ∷ ys) x fails (inr has) = none_at ys x (or_parts (p y) (list_any p ys) fails).1 has

  -- some item passes
  pub any_of : (xs : List X) → list_any p xs ≡ true → (x : X) × (Has xs x × (p x ≡ true))
  any_of [] h = absurd (cc h)
  any_of (y ∷ ys) h = by_case (p y) refl (any_of ys) h
    where
      by_case : (b : Bool) → p y ≡ b → (list_any p ys ≡ true → (x : X) × (Has ys x × (p x ≡ true))) → (b || list_any p ys) ≡ true → (x : X) × (Has (y ∷ ys) x × (p x ≡ true))
      by_case true passes rest k = (y, (inl refl, passes))
      by_case false fails rest k = let more = rest k in (more.0, (inr more.1.0, more.1.1))

  pub some_at : (xs : List X) (x : X) → Has xs x → p x ≡ true → list_any p xs ≡ true
  some_at [] x has passes = absurd has
  some_at (y ∷ ys) x (inl same) passes = or_left (p y) (list_any p ys) (rw same passes)
  some_at (y ∷ ys) x (inr has) passes = or_right (p y) (list_any p ys) (some_at ys x has passes)

  -- what is kept was there, and passes
  pub kept_of : (xs : List X) (x : X) → Has (filter p xs) x → Has xs x × (p x ≡ true)
  kept_of [] x has = absurd has
  kept_of (y ∷ ys) x has = by_case (p y) refl (λ there. kept_of ys x there) has
    where
      by_case : (b : Bool) → p y ≡ b → (Has (filter p ys) x → Has ys x × (p x ≡ true)) → Has (cond b (y ∷ filter p ys) (filter p ys)) x → Has (y ∷ ys) x × (p x ≡ true)
      by_case true passes rest (inl same) = (inl same, rw (← same) passes)
      by_case true passes rest (inr has) = (inr (rest has).0, (rest has).1)
      by_case false fails rest has = (inr (rest has).0, (rest has).1)

  pub has_kept : (xs : List X) (x : X) → Has xs x → p x ≡ true → Has (filter p xs) x
  has_kept [] x has passes = absurd has
  has_kept (y ∷ ys) x (inl same) passes = by_case (p y) (rw same passes)
    where
      by_case : (b : Bool) → b ≡ true → Has (cond b (y ∷ filter p ys) (filter p ys)) x
      by_case true h = inl same
      by_case false h = absurd (cc h)
  has_kept (y ∷ ys) x (inr has) passes = by_case (p y) (has_kept ys x has passes)
    where
      by_case : (b : Bool) → Has (filter p ys) x → Has (cond b (y ∷ filter p ys) (filter p ys)) x
      by_case true rest = inr rest
      by_case false rest = rest

module _ {X Y : Type 0} (f : X → Y) where
  pub mapped_of : (xs : List X) (y : Y) → Has (map f xs) y → (x : X) × (Has xs x × (f x ≡ y))
  mapped_of [] y has = absurd has
  mapped_of (x ∷ xs) y (inl same) = (x, (inl refl, same))
  mapped_of (x ∷ xs) y (inr has) = let rest = mapped_of xs y has in (rest.0, (inr rest.1.0, rest.1.1))

  pub has_mapped : (xs : List X) (x : X) → Has xs x → Has (map f xs) (f x)
  has_mapped [] x has = absurd has
  has_mapped (y ∷ ys) x (inl same) = inl (ap f same)
  has_mapped (y ∷ ys) x (inr has) = inr (has_mapped ys x has)

  -- the items that pass, as they are mapped
  pub filter_mapped : (p : Y → Bool) (xs : List X) → filter p (map f xs) ≡ map f (filter (λ x. p (f x)) xs)
  filter_mapped p [] = refl
  filter_mapped p (x ∷ xs) =
      elim (p (f x)) as (λ b. cond b (f x ∷ filter p (map f xs)) (filter p (map f xs)) ≡ map f (cond b (x ∷ filter (λ x. p (f x)) xs) (filter (λ x. p (f x)) xs))) [
        | true ↦ ap (λ ys. f x ∷ ys) (filter_mapped p xs)
        | false ↦ filter_mapped p xs
      ]

-- two filters, one after the other
pub filter_twice : {X : Type 0} (p q : X → Bool) (xs : List X) → filter p (filter q xs) ≡ filter (λ x. q x && p x) xs
filter_twice p q [] = refl
filter_twice p q (x ∷ xs) = by_cases (q x) (p x) refl (filter_twice p q xs)
  where
    by_cases : (b a : Bool) → p x ≡ a → filter p (filter q xs) ≡ filter (λ x. q x && p x) xs → filter p (cond b (x ∷ filter q xs) (filter q xs)) ≡ cond (b && a) (x ∷ filter (λ x. q x && p x) xs) (filter (λ x. q x && p x) xs)
    by_cases true true passes rest = rw (passes, rest) refl
    by_cases true false fails rest = rw (fails, rest) refl
    by_cases false a is rest = rest

-- tests that agree keep the same items
pub filter_alike : {X : Type 0} (p q : X → Bool) → ((x : X) → p x ≡ q x) → (xs : List X) → filter p xs ≡ filter q xs
filter_alike p q same [] = refl
filter_alike p q same (x ∷ xs) = rw (same x, filter_alike p q same xs) refl

-- ---- tests

-- a conjunction that fails, if its first part holds
pub then_false : (a b : Bool) → a ≡ true → (a && b) ≡ false → b ≡ false
then_false true b h k = k
then_false false b h k = absurd (cc h)

pub itself : (s : List ℕ) → bytes_eq s s ≡ true
itself s = (bytes_eq-Decides s s).1 refl

pub same_text : (a b : List ℕ) → bytes_eq a b ≡ true → a ≡ b
same_text a b h = (bytes_eq-Decides a b).0 h
