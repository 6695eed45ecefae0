use Rattle.std.proofs.Common.{◌≡◌, length}
use Rattle.kapi_replay.specs.Manifests.{text_at}
use Rattle.kapi_replay.proofs.manifests.text_at.Given as goal

abbrev pub invariant-loop-rest : goal.invariant-loop-rest
invariant-loop-rest l = text_at l.loads l.rest l.left ≡ text_at l.loads l.files l.number

abbrev pub decreases-loop-rest : goal.decreases-loop-rest
decreases-loop-rest l = length l.rest
