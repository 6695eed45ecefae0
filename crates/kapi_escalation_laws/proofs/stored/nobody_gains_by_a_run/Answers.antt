use Rattle.kapi_escalation_laws.proofs.Reached.{objects_give_nothing}
use Rattle.kapi_escalation_laws.proofs.stored.nobody_gains_by_a_run.Goals as goal

pub returns : goal.returns
returns c = objects_give_nothing
