use Rattle.std.proofs.Common.{◌≡◌, ℕ, nat_lt}
use Rattle.kapi_missing.specs.Private.Numbers.{has_bit}
use Rattle.kapi_missing.proofs.numbers.first_numbers.Given as goal

abbrev pub invariant-loop-number : goal.invariant-loop-number
invariant-loop-number l = (n : ℕ) → has_bit l.words.items n ≡ nat_lt n l.number
