use Rattle.std.proofs.Common.{List, ◌++◌, length}
use Rattle.kapi_replay.specs.Outcomes.{ArePlayed}
use Rattle.kapi_transcripts.specs.declared.failure.Check.{Check}
use Rattle.kapi_transcripts.specs.declared.failure.Failure.{Failure}
use Rattle.kapi_replay.proofs.replay.play_cases.Given as goal

-- with the checks and failures of the cases that are left, these are those of all
abbrev pub invariant-loop-case : goal.invariant-loop-case
invariant-loop-case g l = (others : List Check) (more : List Failure) → ArePlayed l.loads l.rest others more → ArePlayed l.loads l.cases (l.checks.items ++ others) (l.failures.items ++ more)

abbrev pub decreases-loop-case : goal.decreases-loop-case
decreases-loop-case g l = length l.rest
