-- A number, digit by digit.
use Rattle.std.proofs.Common.{◌≡◌, ℕ, ◌+◌, ◌-◌, ◌*◌, ◌^◌, ◌<◌, ◌≤◌, true, List, length, take, drop, get_or, arith, drop-cons, subst, add-one, lit<, nat_le}
use Rattle.std.specs.List.{list_all}
use Rattle.std.specs.Char.{is_ascii_digit}
use Rattle.std.specs.Int.{IsInRange}
use Rattle.std.specs.Str.Parse.{digits_value}
use Rattle.std.proofs.Math.Nat.{pow-le-pow_right}
use Rattle.std.proofs.lemmas.Nat.{pow-add}
use Rattle.std.proofs.lemmas.Int.Digits.{digits_value_more}
use Rattle.std.proofs.lemmas.Str.{digit_value_digit}
use Rattle.std.proofs.lemmas.Bool.Decides.{nat_tests}
use Rattle.std.proofs.lemmas.Bool.{and_parts}

-- the first digit of the rest, and the digits behind it
pub parted : (value : List ℕ) (i : ℕ) → i < length value → list_all is_ascii_digit (drop i value) ≡ true
    → (is_ascii_digit (get_or value i 0) ≡ true) × (list_all is_ascii_digit (drop (i + 1) value) ≡ true)
parted value i below h =
    and_parts (is_ascii_digit (get_or value i 0)) (list_all is_ascii_digit (drop (i + 1) value))
    (rw add-one (subst (λ xs. list_all is_ascii_digit xs ≡ true) (drop-cons value i 0 below) h))

pub room : (i n : ℕ) → i < 18 → n < 10 ^ i → n * 10 + 9 < 18446744073709551616
room i n below small = let low : i ≤ 17 = omega (arith, below) in let most : 10 ^ i ≤ 10 ^ 17 = pow-le-pow_right (lit< tt) low in omega (arith, most, small)

-- a digit is from 48 to 57
pub in_range : (b : ℕ) → is_ascii_digit b ≡ true → IsInRange 48 57 b
in_range b h = let k = and_parts (nat_le 48 b) (nat_le b 57) h in (grind (arith, nat_tests, k.0), grind (arith, nat_tests, k.1))

-- one digit more
pub digit_more : (value : List ℕ) (i n r : ℕ) → i < length value → list_all is_ascii_digit (drop i value) ≡ true
    → n ≡ digits_value 10 (take i value) → n < 10 ^ i → r ≡ get_or value i 0 - 48
    → (n * 10 + r ≡ digits_value 10 (take (i + 1) value)) × (n * 10 + r < 10 ^ (i + 1)) × (list_all is_ascii_digit (drop (i + 1) value) ≡ true)
digit_more value i n r below digits e small f =
    let p = parted value i below digits in
    let range = in_range (get_or value i 0) p.0 in (
      omega (arith, digits_value_more 10 value i below, digit_value_digit (get_or value i 0) range, range, e, f),
      (let q : 10 ^ (i + 1) ≡ 10 ^ i * 10 = pow-add 10 i 1 in omega (arith, q, small, range, f)),
      p.1,
    )
