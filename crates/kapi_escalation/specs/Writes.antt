-- Writes of policy objects: where they count, and which rules they grant (Kubernetes, 'Using RBAC Authorization',
-- 'Privilege escalation prevention and bootstrapping').
use Rattle.std.specs.Prelude.{ℕ, List, [], Bool, true, false, ◌&&◌, ◌||◌, Option, Some, None}
use Rattle.std.specs.Option.{is_some}
use Rattle.std.specs.Str.{bytes_eq}
use Rattle.kapi_model.specs.declared.kinds.RoleKind.{RoleKind}
use Rattle.kapi_model.specs.declared.kinds.RoleKind.TheVariants as role_kind
use Rattle.kapi_model.specs.declared.binding.ClusterRoleBinding.{ClusterRoleBinding}
use Rattle.kapi_model.specs.declared.binding.RoleBinding.{RoleBinding}
use Rattle.kapi_model.specs.declared.policy_rule.PolicyRule.{PolicyRule}
use Rattle.kapi_model.specs.declared.role.ClusterRole.{ClusterRole}
use Rattle.kapi_model.specs.declared.role_ref.RoleRef.{RoleRef}
use Rattle.kapi_policy.specs.declared.change.PolicyPut.{PolicyPut}
use Rattle.kapi_policy.specs.declared.change.PolicyPut.TheVariants as put
use Rattle.kapi_policy.specs.Decided.{rules_of}
use Rattle.kapi_policy.specs.Objects.{PolicyObjects}
use Rattle.kapi_escalation.specs.declared.write.WrittenObject.{WrittenObject}
use Rattle.kapi_escalation.specs.declared.write.WrittenObject.TheVariants as written

-- the namespace in which a write of the object counts, empty where it counts cluster-wide
abbrev pub scope : WrittenObject → List ℕ
scope (written.Role place role) = place.namespace
scope (written.ClusterRole name versions) = []
scope (written.RoleBinding place versions) = place.namespace
scope (written.ClusterRoleBinding name versions) = []

-- the new version of the object at its place
abbrev pub put_of : WrittenObject → PolicyPut
put_of (written.Role place role) = put.Role place role
put_of (written.ClusterRole name versions) = put.ClusterRole name versions.new
put_of (written.RoleBinding place versions) = put.RoleBinding place versions.new
put_of (written.ClusterRoleBinding name versions) = put.ClusterRoleBinding name versions.new

-- the rules that the new version grants: a role's own, or those of the role that a binding refers to, if it exists
abbrev pub wanted : PolicyObjects → WrittenObject → Option (List PolicyRule)
wanted objects (written.Role place role) = Some role.rules
wanted objects (written.ClusterRole name versions) = Some versions.new.rules
wanted objects (written.RoleBinding place versions) = rules_of objects versions.new.role_ref place.namespace
wanted objects (written.ClusterRoleBinding name versions) = rules_of objects versions.new.role_ref []

-- the old version of a cluster role, if there was one, took its rules from others
abbrev pub was_aggregated : Option ClusterRole → Bool
was_aggregated None = false
was_aggregated (Some old) = is_some old.aggregation_rule

-- the object is a cluster role whose old or new version takes its rules from others
abbrev pub is_aggregated : WrittenObject → Bool
is_aggregated (written.Role place role) = false
is_aggregated (written.ClusterRole name versions) = was_aggregated versions.old || is_some versions.new.aggregation_rule
is_aggregated (written.RoleBinding place versions) = false
is_aggregated (written.ClusterRoleBinding name versions) = false

-- two kinds of roles are the same
abbrev pub is_same_kind : RoleKind → RoleKind → Bool
is_same_kind role_kind.Role role_kind.Role = true
is_same_kind role_kind.Role role_kind.ClusterRole = false
is_same_kind role_kind.ClusterRole role_kind.Role = false
is_same_kind role_kind.ClusterRole role_kind.ClusterRole = true

-- the two refer to the same role: by its kind and its name
abbrev pub is_same_role : RoleRef → RoleRef → Bool
is_same_role a b = is_same_kind a.kind b.kind && bytes_eq a.name b.name

-- a role binding keeps its role, if it existed
abbrev pub keeps_role_in_namespace : Option RoleBinding → RoleBinding → Bool
keeps_role_in_namespace None new = true
keeps_role_in_namespace (Some old) new = is_same_role old.role_ref new.role_ref

-- a cluster role binding keeps its role, if it existed
abbrev pub keeps_role_cluster_wide : Option ClusterRoleBinding → ClusterRoleBinding → Bool
keeps_role_cluster_wide None new = true
keeps_role_cluster_wide (Some old) new = is_same_role old.role_ref new.role_ref

-- a binding refers to the role that it referred to, if it existed ('RoleBinding and ClusterRoleBinding')
abbrev pub keeps_role : WrittenObject → Bool
keeps_role (written.Role place role) = true
keeps_role (written.ClusterRole name versions) = true
keeps_role (written.RoleBinding place versions) = keeps_role_in_namespace versions.old versions.new
keeps_role (written.ClusterRoleBinding name versions) = keeps_role_cluster_wide versions.old versions.new
