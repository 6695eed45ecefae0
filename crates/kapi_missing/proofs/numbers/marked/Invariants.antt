use Rattle.std.proofs.Common.{◌≡◌, ℕ, take}
use Rattle.kapi_missing.specs.Private.Numbers.{has_bit, has_number}
use Rattle.kapi_missing.proofs.numbers.marked.Given as goal

abbrev pub invariant-loop-number : goal.invariant-loop-number
invariant-loop-number l = (n : ℕ) → has_bit l.words.items n ≡ has_number (take l.number-index l.list) n
