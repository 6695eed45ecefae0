use Rattle.kapi_replay.proofs.Played.{all_played, more_played, none_left}
use Rattle.kapi_replay.proofs.replay.play_cases.Goals as goal

pub loop-case-preserved : goal.loop-case-preserved
loop-case-preserved g c =
    more_played _ _ _ _ _ _ _ _ _ _ _ _ c.loop-case.invariant c.in-Some.ensures.cases.0 c.in_ok-found.ensures c.in_ok-more.ensures c.as_slice.ensures.value c.in_ok-push_checks.ensures c.in_ok-append.ensures.items

pub returns : goal.returns
returns g c = all_played _ _ _ _ _ c.loop-case.invariant (none_left _ c.in_default.ensures.cases)
