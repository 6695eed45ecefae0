use Rattle.kapi_escalation_laws.proofs.Law.{actors_hold_own}
use Rattle.kapi_escalation_laws.proofs.laws.actors_hold_what_actors_held.Goals as goal

pub returns : goal.returns
returns c = actors_hold_own
