use Rattle.kapi_escalation.proofs.Grants.{all_implied, any_part, less_of_cluster_roles, less_of_roles}
use Rattle.kapi_escalation.proofs.laws.who_holds_rules_holds_any_part.Goals as goal

pub returns-clause-part : goal.returns-clause-part
returns-clause-part c = any_part

pub returns-clause-implied : goal.returns-clause-implied
returns-clause-implied c = all_implied

pub returns-clause-roles : goal.returns-clause-roles
returns-clause-roles c = less_of_roles

pub returns-clause-cluster_roles : goal.returns-clause-cluster_roles
returns-clause-cluster_roles c = less_of_cluster_roles
