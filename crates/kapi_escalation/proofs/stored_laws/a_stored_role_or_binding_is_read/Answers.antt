use Rattle.kapi_rbac_types.specs.Trees.{role_of, cluster_role_of, role_binding_of, cluster_role_binding_of}
use Rattle.kapi_escalation.proofs.Sound.{stored_reads}
use Rattle.kapi_escalation.proofs.stored_laws.a_stored_role_or_binding_is_read.Goals as goal
use Rattle.kapi_escalation.specs.declared.kind.PolicyKind.TheVariants as kind

pub returns-clause-role : goal.returns-clause-role
returns-clause-role c os k tree h is at = stored_reads role_of os k kind.Role tree h is at

pub returns-clause-cluster_role : goal.returns-clause-cluster_role
returns-clause-cluster_role c os k tree h is at = stored_reads cluster_role_of os k kind.ClusterRole tree h is at

pub returns-clause-role_binding : goal.returns-clause-role_binding
returns-clause-role_binding c os k tree h is at = stored_reads role_binding_of os k kind.RoleBinding tree h is at

pub returns-clause-cluster_role_binding : goal.returns-clause-cluster_role_binding
returns-clause-cluster_role_binding c os k tree h is at = stored_reads cluster_role_binding_of os k kind.ClusterRoleBinding tree h is at
