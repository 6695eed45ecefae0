use Rattle.std.proofs.Common.{◌≡◌, ◌&&◌, ℕ, take, false}
use Rattle.kapi_missing.specs.Private.Numbers.{has_bit, some_has}
use Rattle.kapi_missing.proofs.numbers.is_any_common.Given as goal

abbrev pub invariant-loop-numbers : goal.invariant-loop-numbers
invariant-loop-numbers l = (n : ℕ) → (has_bit l.words n && some_has (take l.numbers-index l.sets) n) ≡ false
