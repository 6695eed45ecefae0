use Rattle.std.proofs.Common.{◌≡◌, ◌++◌, length}
use Rattle.kapi_transcripts.specs.Wants.{unquoted}
use Rattle.kapi_transcripts.proofs.wanted.unquoted.Given as goal

abbrev pub invariant-loop-rest : goal.invariant-loop-rest
invariant-loop-rest l = l.text.items ++ unquoted l.rest ≡ unquoted l.bytes

abbrev pub decreases-loop-rest : goal.decreases-loop-rest
decreases-loop-rest l = length l.rest
