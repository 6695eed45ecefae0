use Rattle.kapi_core.proofs.Gains.{between_gains, events_gain}
use Rattle.kapi_core.proofs.laws.nobody_gains_between_events.Goals as goal

pub returns-clause-opening : goal.returns-clause-opening
returns-clause-opening c = between_gains

pub returns-clause-running : goal.returns-clause-running
returns-clause-running c = events_gain
