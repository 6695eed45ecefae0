use Rattle.std.proofs.Common.{◌≡◌, length}
use Rattle.kapi_transcripts.specs.Reports.{came_for}
use Rattle.kapi_transcripts.proofs.report.came_for.Given as goal

abbrev pub invariant-loop-rest : goal.invariant-loop-rest
invariant-loop-rest l = came_for l.number l.rest ≡ came_for l.number l.failures

abbrev pub decreases-loop-rest : goal.decreases-loop-rest
decreases-loop-rest l = length l.rest
