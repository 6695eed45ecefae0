use Rattle.std.proofs.Common.{◌≡◌, length}
use Rattle.kapi_replay.specs.Kinds.{first_blank}
use Rattle.kapi_replay.proofs.kinds.first_blank.Given as goal

abbrev pub invariant-loop-rest : goal.invariant-loop-rest
invariant-loop-rest l = first_blank l.loads l.rest ≡ first_blank l.loads l.files

abbrev pub decreases-loop-rest : goal.decreases-loop-rest
decreases-loop-rest l = length l.rest
