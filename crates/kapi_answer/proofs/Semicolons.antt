-- The elements before the first one that passes a test, from its position.
use Rattle.std.proofs.Common.{◌≡◌, ℕ, Bool, true, false, cond, List, length, take, Some, None, refl, sym, ap}
use Rattle.std.specs.List.{position, position_or_len, before_first}
use Rattle.std.proofs.Math.Dec.{ltb}
use Rattle.std.proofs.lemmas.Bool.{ltb-false}
use Rattle.std.proofs.lemmas.List.{take_all}

-- the number in a choice that is some number
chosen : (b : Bool) (n at : ℕ) → cond b (Some n) None ≡ Some at → n ≡ at
chosen true n at h = cc
chosen false n at h = absurd (cc h)

-- a choice that is none was made by a false test
unchosen : (b : Bool) (n : ℕ) → cond b (Some n) None ≡ None → b ≡ false
unchosen true n h = absurd (cc h)
unchosen false n h = refl

pub before_found : (p : ℕ → Bool) (xs : List ℕ) (at : ℕ) → position p xs ≡ Some at → take at xs ≡ before_first p xs
before_found p xs at h = ap (λ n. take n xs) (sym (chosen (ltb (position_or_len p xs) (length xs)) (position_or_len p xs) at h))

pub before_nothing : (p : ℕ → Bool) (xs : List ℕ) → position p xs ≡ None → xs ≡ before_first p xs
before_nothing p xs h =
    sym (take_all (position_or_len p xs) xs
    (ltb-false (position_or_len p xs) (length xs) (unchosen (ltb (position_or_len p xs) (length xs)) (position_or_len p xs) h)))
