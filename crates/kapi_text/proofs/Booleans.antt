-- Small equations of tests.
use Rattle.std.proofs.Common.{◌≡◌, ℕ, Bool, true, false, cond, not, ◌&&◌, ◌||◌, List, [], ◌∷◌, refl, sym}
use Rattle.std.proofs.lemmas.Slice.Eq.{bytes_eq-Decides}
use Rattle.std.specs.List.{filter, list_any}
use Rattle.std.specs.Str.{bytes_eq}

pub or_false : (a : Bool) → (a || false) ≡ a
or_false true = refl
or_false false = refl

pub or_assoc : (a b c : Bool) → ((a || b) || c) ≡ (a || (b || c))
or_assoc true b c = refl
or_assoc false b c = refl

pub or_across : (a b c d : Bool) → ((a || b) || (c || d)) ≡ ((a || c) || (b || d))
or_across true b c d = refl
or_across false true true d = refl
or_across false true false d = refl
or_across false false c d = refl

pub and_or : (a b c : Bool) → ((a && b) || (a && c)) ≡ (a && (b || c))
and_or true b c = refl
and_or false b c = refl

pub and_true : (a : Bool) → (a && true) ≡ a
and_true true = refl
and_true false = refl

pub and_false : (a : Bool) → (a && false) ≡ false
and_false true = refl
and_false false = refl

-- two tests that follow from each other are the same
pub by_truth : (a b : Bool) → (a ≡ true → b ≡ true) → (b ≡ true → a ≡ true) → a ≡ b
by_truth true b there back = sym (there refl)
by_truth false true there back = back refl
by_truth false false there back = refl

pub regrouped : (x y z : Bool) → ((x || (y || false)) || z) ≡ (x || (y || z))
regrouped true y z = refl
regrouped false true z = refl
regrouped false false z = refl

-- what implies the first of two adds nothing
pub absorbed : (x y z : Bool) → (y ≡ true → x ≡ true) → (x || z) ≡ (x || (y || z))
absorbed true y z more = refl
absorbed false true z more = absurd (let never = more refl in cc)
absorbed false false z more = refl

-- what implies a factor stands before it or within it
pub passing : (x y z : Bool) → (y ≡ true → x ≡ true) → (y || (x && z)) ≡ (x && (y || z))
passing true y z more = refl
passing false true z more = absurd (let never = more refl in cc)
passing false false z more = refl

-- what excludes a factor adds nothing within it
pub failing : (x y z : Bool) → (y ≡ true → x ≡ false) → (x && z) ≡ (x && (y || z))
failing true true z more = absurd (let never = more refl in cc)
failing true false z more = refl
failing false y z more = refl

-- a factor that is the same at each element
pub any_after : {X : Type 0} (c : Bool) (p : X → Bool) (xs : List X) → list_any (λ x. c && p x) xs ≡ (c && list_any p xs)
any_after true p xs = refl
any_after false p [] = refl
any_after false p (x ∷ xs) = any_after false p xs

-- equal tests keep the same elements
pub filter_same : {X : Type 0} (p q : X → Bool) → ((x : X) → p x ≡ q x) → (xs : List X) → filter p xs ≡ filter q xs
filter_same p q same [] = refl
filter_same p q same (x ∷ xs) = rw (same x, filter_same p q same xs) refl

pub any_same : {X : Type 0} (p q : X → Bool) → ((x : X) → p x ≡ q x) → (xs : List X) → list_any p xs ≡ list_any q xs
any_same p q same [] = refl
any_same p q same (x ∷ xs) = rw (same x, any_same p q same xs) refl

-- texts are compared alike from both sides
pub turned : (a b : List ℕ) → bytes_eq a b ≡ bytes_eq b a
turned a b = by_test (bytes_eq a b) (bytes_eq b a) refl refl
  where
    by_test : (s t : Bool) → bytes_eq a b ≡ s → bytes_eq b a ≡ t → s ≡ t
    by_test true true h k = refl
    by_test false false h k = refl
    by_test true false h k = absurd (let same : a ≡ b = (bytes_eq-Decides a b).0 h in let never : bytes_eq b b ≡ false = rw same at k in let always = (bytes_eq-Decides b b).1 refl in cc)
    by_test false true h k = absurd (let same : b ≡ a = (bytes_eq-Decides b a).0 k in let never : bytes_eq a a ≡ false = rw same at h in let always = (bytes_eq-Decides a a).1 refl in cc)

pub cond_or : (b x : Bool) → cond b true x ≡ (b || x)
cond_or true x = refl
cond_or false x = refl

pub cond_not : (b x : Bool) → cond b false x ≡ (x && not b)
cond_not true x = sym (and_false x)
cond_not false x = sym (and_true x)
