use Rattle.std.proofs.Common.{◌≡◌, ◌&&◌, ◌/◌, ◌<◌, ℕ, false}
use Rattle.kapi_missing.specs.Private.Numbers.{has_bit}
use Rattle.kapi_missing.proofs.numbers.shares.Given as goal

abbrev pub invariant-loop-place : goal.invariant-loop-place
invariant-loop-place l = (n : ℕ) → n / 64 < l.place → (has_bit l.words n && has_bit l.others n) ≡ false
