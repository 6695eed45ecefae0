use Rattle.std.proofs.Common.{◌≡◌, length}
use Rattle.kapi_store.specs.Private.Cut.{past_digits}
use Rattle.kapi_store.proofs.cut.past_digits.Given as goal

abbrev pub invariant-loop-rest : goal.invariant-loop-rest
invariant-loop-rest l = past_digits l.rest ≡ past_digits l.text

abbrev pub decreases-loop-rest : goal.decreases-loop-rest
decreases-loop-rest l = length l.rest
