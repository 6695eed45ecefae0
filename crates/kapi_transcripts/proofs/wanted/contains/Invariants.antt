use Rattle.std.proofs.Common.{◌≡◌, length}
use Rattle.kapi_transcripts.specs.Wants.{contains}
use Rattle.kapi_transcripts.proofs.wanted.contains.Given as goal

abbrev pub invariant-loop-rest : goal.invariant-loop-rest
invariant-loop-rest l = contains l.rest l.text ≡ contains l.bytes l.text

abbrev pub decreases-loop-rest : goal.decreases-loop-rest
decreases-loop-rest l = length l.rest
