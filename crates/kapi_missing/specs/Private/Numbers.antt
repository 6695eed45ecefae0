-- Sets of the numbers of rules.
use Rattle.std.specs.Prelude.{ℕ, ◌==◌, ◌/◌, ◌%◌, Bool, List, get_or}
use Rattle.std.specs.Int.{bit_at}
use Rattle.std.specs.List.{list_any}
use denote.Ref.{Bor}
use Rattle.kapi_missing.specs.declared.numbers.Numbers.{Numbers}
use Rattle.kapi_missing.specs.declared.numbers.Numbers.TheVariants as numbers

-- the bit of the number is set, in words of 64
abbrev pub has_bit : List ℕ → ℕ → Bool
has_bit words n = bit_at (get_or words (n / 64) 0) (n % 64) == 1

-- the list has the number
abbrev pub has_number : List ℕ → ℕ → Bool
has_number list n = list_any (λ m. m == n) list

-- the set has the number
abbrev pub has : Numbers → ℕ → Bool
has (numbers.Few list) n = has_number list.items n
has (numbers.Many words) n = has_bit words.items n

-- one of the sets has the number
abbrev pub some_has : List (Bor Numbers) → ℕ → Bool
some_has sets n = list_any (λ (s : Bor Numbers). has s.now n) sets
