use Rattle.kapi_escalation.proofs.Grants.{masters_pass}
use Rattle.kapi_escalation.proofs.laws.masters_keep_roles_alone.Goals as goal

pub returns : goal.returns
returns c = masters_pass
