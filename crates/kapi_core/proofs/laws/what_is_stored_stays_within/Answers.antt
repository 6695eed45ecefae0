use Rattle.kapi_escalation_laws.proofs.Facts.{acting_hold_own}
use Rattle.kapi_core.proofs.Gains.{between_holds, events_hold}
use Rattle.kapi_core.proofs.laws.what_is_stored_stays_within.Goals as goal

pub returns-clause-opening : goal.returns-clause-opening
returns-clause-opening c = between_holds

pub returns-clause-running : goal.returns-clause-running
returns-clause-running c = events_hold

pub returns-clause-actors : goal.returns-clause-actors
returns-clause-actors c = acting_hold_own
