use Rattle.std.proofs.Common.{◌≡◌, length}
use Rattle.kapi_transcripts.specs.Sent.{body_of}
use Rattle.kapi_transcripts.proofs.sent.body.Given as goal

abbrev pub invariant-loop-rest : goal.invariant-loop-rest
invariant-loop-rest l = body_of l.rest ≡ body_of l.reply

abbrev pub decreases-loop-rest : goal.decreases-loop-rest
decreases-loop-rest l = length l.rest
