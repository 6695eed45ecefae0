use Rattle.std.proofs.Common.{◌∙◌, sym}
use Rattle.kapi_aggregation.proofs.Giving.{marks_cover}
use Rattle.kapi_aggregation.proofs.Unmoved.{none_due}
use Rattle.kapi_aggregation.proofs.tracker.Tracker.next_turn.Goals as goal

pub returns-then-not-has_marks-clause-exact : goal.returns-then-not-has_marks-clause-exact
returns-then-not-has_marks-clause-exact c = none_due c.args.self.now _ (sym c.has_marks.ensures ∙ c.if-not-has_marks.true)

pub returns-clause-covers : goal.returns-clause-covers
returns-clause-covers c = λ covers.
    marks_cover c.args.store.now c.learn_anew.new.self c.keep_marks_after.new.self c.in_ok-turn.turn c.revision-revision.ensures.store c.in_ok-turn.ensures.ordered
    c.in_ok-turn.ensures.first c.keep_marks_after.ensures.marks c.keep_marks_after.ensures.takers c.keep_marks_after.ensures.givers (c.in_ok-learn_anew.ensures.covers covers)
