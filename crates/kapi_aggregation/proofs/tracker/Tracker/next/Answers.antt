use Rattle.kapi_aggregation.proofs.Turning.{next_covers}
use Rattle.kapi_aggregation.proofs.tracker.Tracker.next.Goals as goal

pub returns-clause-covers : goal.returns-clause-covers
returns-clause-covers c =
    next_covers c.args.self.now c.keep_marks_after.new.self _ _ c.in_ok-turn.turn c.as_slice.ensures.roles c.as_slice.ensures.ordered c.in_ok-turn.ensures
    c.keep_marks_after.ensures.marks c.keep_marks_after.ensures.takers c.keep_marks_after.ensures.givers
