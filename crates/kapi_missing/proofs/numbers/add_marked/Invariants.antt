use Rattle.std.proofs.Common.{◌≡◌, ◌||◌, ◌&&◌, ◌/◌, ℕ, length, nat_lt}
use Rattle.kapi_missing.specs.Private.Numbers.{has_bit}
use Rattle.kapi_missing.proofs.numbers.add_marked.Given as goal

abbrev pub invariant-loop-place : goal.invariant-loop-place
invariant-loop-place l = (length l.into.items ≡ length l.initial.into.items)
    × ((n : ℕ) → has_bit l.into.items n ≡ (has_bit l.initial.into.items n || (nat_lt (n / 64) l.place && (has_bit l.words n && has_bit l.others n))))
