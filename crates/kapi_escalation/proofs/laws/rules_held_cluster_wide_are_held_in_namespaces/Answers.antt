use Rattle.kapi_escalation.proofs.Grants.{held_in_namespaces}
use Rattle.kapi_escalation.proofs.laws.rules_held_cluster_wide_are_held_in_namespaces.Goals as goal

pub returns : goal.returns
returns c = held_in_namespaces
