use Rattle.std.proofs.Common.{◌≡◌, ◌||◌, ◌&&◌, ℕ, length, take}
use Rattle.kapi_missing.specs.Private.Numbers.{has_bit, has_number}
use Rattle.kapi_missing.proofs.numbers.add_listed.Given as goal

abbrev pub invariant-loop-number : goal.invariant-loop-number
invariant-loop-number l = (length l.into.items ≡ length l.initial.into.items)
    × ((n : ℕ) → has_bit l.into.items n ≡ (has_bit l.initial.into.items n || (has_bit l.words n && has_number (take l.number-index l.list) n)))
