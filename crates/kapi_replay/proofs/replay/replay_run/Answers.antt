use Rattle.kapi_replay.proofs.Played.{all_replayed, more_replayed, none_left}
use Rattle.kapi_replay.proofs.replay.replay_run.Goals as goal

pub loop-transcript-preserved : goal.loop-transcript-preserved
loop-transcript-preserved g c = λ contents more.
    more_replayed _ _ _ _ _ _ _ _ _ _ _ c.loop-transcript.invariant c.in-Some.ensures.cases.0 c.in_ok-outcome.ensures c.in_ok-keep.ensures contents more

pub returns : goal.returns
returns g c = all_replayed _ _ _ _ _ _ c.loop-transcript.invariant (none_left _ c.in_default.ensures.cases)
