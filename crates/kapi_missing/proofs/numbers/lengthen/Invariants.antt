use Rattle.std.proofs.Common.{◌≡◌, ◌-◌, ◌+◌, ℕ, length}
use Rattle.kapi_missing.specs.Private.Numbers.{has_bit}
use Rattle.kapi_missing.proofs.numbers.lengthen.Given as goal

abbrev pub invariant-loop-words : goal.invariant-loop-words
invariant-loop-words l = (n : ℕ) → has_bit l.words.items n ≡ has_bit l.initial.words.items n

abbrev pub decreases-loop-words : goal.decreases-loop-words
decreases-loop-words l = l.place + 1 - length l.words.items
