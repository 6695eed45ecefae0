use Rattle.std.proofs.Common.{List, Option, ℕ, ◌++◌, length}
use Rattle.kapi_replay.specs.Outcomes.{IsReplayed}
use Rattle.kapi_transcripts.specs.declared.failure.Outcome.{Outcome}
use Rattle.kapi_replay.proofs.replay.replay_run.Given as goal

-- with the outcomes of the transcripts that are left, these are the outcomes of all
abbrev pub invariant-loop-transcript : goal.invariant-loop-transcript
invariant-loop-transcript g l = (contents : Option (List ℕ)) (more : List Outcome) → IsReplayed l.rewrites l.rest (g.W.Write.contents l.writer) contents more
    → IsReplayed l.rewrites l.transcripts (g.W.Write.contents l.initial.writer) contents (l.outcomes.items ++ more)

abbrev pub decreases-loop-transcript : goal.decreases-loop-transcript
decreases-loop-transcript g l = length l.rest
