-- The number of a Content-Length, counted up to the first number above the limit.
use Rattle.std.proofs.Common.{◌≡◌, ℕ, ◌+◌, ◌-◌, ◌*◌, ◌<◌, true, List, length, take, drop, get_or, min, arith, refl, sym, drop-cons, add-one}
use Rattle.std.specs.List.{list_all}
use Rattle.std.specs.Char.{is_ascii_digit}
use Rattle.std.specs.Int.{IsInRange}
use Rattle.std.specs.Str.Parse.{digits_value}
use Rattle.std.proofs.lemmas.Int.Digits.{digits_value_more}
use Rattle.std.proofs.lemmas.Str.{digit_value_digit}

-- one digit more
pub counted : (value : List ℕ) (i n r : ℕ) → i < length value → IsInRange 48 57 (get_or value i 0)
    → n ≡ min (digits_value 10 (take i value)) 1048577 → r ≡ min (n * 10 + (get_or value i 0 - 48)) 1048577
    → r ≡ min (digits_value 10 (take (i + 1) value)) 1048577
counted value i n r below range e f =
    omega (arith, digits_value_more 10 value i below, digit_value_digit (get_or value i 0) range, range)

-- a digit leaves the rest to be digits
pub rest_digits : (value : List ℕ) (i : ℕ) → i < length value → is_ascii_digit (get_or value i 0) ≡ true
    → list_all is_ascii_digit (drop (i + 1) value) ≡ list_all is_ascii_digit (drop i value)
rest_digits value i below digit =
    sym (rw (drop-cons value i 0 below) (rw (digit, add-one) refl))
