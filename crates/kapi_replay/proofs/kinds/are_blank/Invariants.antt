use Rattle.std.proofs.Common.{◌≡◌, length}
use Rattle.kapi_replay.specs.Kinds.{are_blank}
use Rattle.kapi_replay.proofs.kinds.are_blank.Given as goal

abbrev pub invariant-loop-rest : goal.invariant-loop-rest
invariant-loop-rest l = are_blank l.rest ≡ are_blank l.texts

abbrev pub decreases-loop-rest : goal.decreases-loop-rest
decreases-loop-rest l = length l.rest
