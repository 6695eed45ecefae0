use Rattle.kapi_escalation_laws.proofs.Law.{roles_never_grow}
use Rattle.kapi_escalation_laws.proofs.laws.roles_never_grow.Goals as goal

pub returns : goal.returns
returns c = roles_never_grow
