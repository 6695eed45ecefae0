use Rattle.kapi_escalation_laws.proofs.Law.{nobody_gains}
use Rattle.kapi_escalation_laws.proofs.laws.nobody_gains_what_no_actor_held.Goals as goal

pub returns : goal.returns
returns c = nobody_gains
