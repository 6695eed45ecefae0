-- The numbers that words of a command line specify.
use Rattle.std.specs.Prelude.{◌≡◌, ℕ, Bool, true, false, ◌*◌, ◌&&◌, nat_le, if◌then◌else◌, List, length, refl, Option, Some, None}
use Rattle.std.specs.Char.{is_ascii_digit}
use Rattle.std.specs.List.{list_all}
use Rattle.std.specs.Str.Parse.{digits_value}

-- the number that a text of 1 to `places` decimal digits writes, if the number is within bounds
unfoldable pub number_of : ℕ → ℕ → ℕ → List ℕ → Option ℕ
number_of places least largest s =
    if nat_le 1 (length s) && (nat_le (length s) places && (list_all is_ascii_digit s && (nat_le least (digits_value 10 s) && nat_le (digits_value 10 s) largest)))
    then Some (digits_value 10 s)
    else None

-- the first revision by the clock: 100 for each millisecond since the start of 1970, if that is such a revision
abbrev pub clock_revision : ℕ → Option ℕ
clock_revision milliseconds = if nat_le (milliseconds * 100) 281474976710650 then Some (milliseconds * 100) else None

-- there are 1 to 16
abbrev pub are_few : ℕ → Bool
are_few n = nat_le 1 n && nat_le n 16

-- a first revision that is named is at most the largest after which the opening objects can be created
abbrev pub is_first : Option ℕ → Bool
is_first None = true
is_first (Some n) = nat_le n 281474976710650

-- what is made of the proof of a test, if it holds
abbrev pub when : {A : Type 0} (b : Bool) → (b ≡ true → Option A) → Option A
when true make = make refl
when false make = None
