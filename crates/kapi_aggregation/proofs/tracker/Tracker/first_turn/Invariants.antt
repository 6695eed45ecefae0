use Rattle.std.proofs.Common.{◌≡◌, map, drop}
use Rattle.kapi_aggregation.specs.Marks.{turn_if_marked}
use Rattle.kapi_aggregation.specs.Turns.{first_some}
use Rattle.kapi_aggregation.specs.Views.{labelled}
use Rattle.kapi_aggregation.proofs.tracker.Tracker.first_turn.Given as goal

abbrev pub invariant-loop-role : goal.invariant-loop-role
invariant-loop-role l =
    first_some (turn_if_marked l.self.marks (map labelled l.roles)) (map labelled (drop l.role-index l.roles))
    ≡ first_some (turn_if_marked l.self.marks (map labelled l.roles)) (map labelled l.roles)
