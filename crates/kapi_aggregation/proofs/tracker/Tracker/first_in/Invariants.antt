use Rattle.std.proofs.Common.{◌≡◌}
use Rattle.kapi_store.specs.Plain.{plain_of}
use Rattle.kapi_aggregation.specs.Marks.{turn_given}
use Rattle.kapi_aggregation.specs.Turns.{first_some}
use Rattle.kapi_aggregation.proofs.tracker.Tracker.first_in.Given as goal

abbrev pub invariant-loop-name : goal.invariant-loop-name
invariant-loop-name l = first_some (turn_given (plain_of l.store).objects l.self.givers) l.name-iterator ≡ first_some (turn_given (plain_of l.store).objects l.self.givers) l.self.marks
