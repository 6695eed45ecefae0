use Rattle.std.proofs.Common.{◌≡◌, ◌&&◌, ℕ, length, take}
use Rattle.kapi_missing.specs.Private.Numbers.{has_bit, some_has}
use Rattle.kapi_missing.proofs.numbers.common.Given as goal

abbrev pub invariant-loop-numbers : goal.invariant-loop-numbers
invariant-loop-numbers l = (length l.both.items ≡ length l.words) × ((n : ℕ) → has_bit l.both.items n ≡ (has_bit l.words n && some_has (take l.numbers-index l.sets) n))
