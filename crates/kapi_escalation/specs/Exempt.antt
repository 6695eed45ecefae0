-- Which identities write rules without holding them (Kubernetes, 'Using RBAC Authorization', 'Restrictions on role
-- creation or update' and 'Restrictions on role binding creation or update').
use Rattle.std.specs.Prelude.{ℕ, List, [], Bool, codes}
use Rattle.kapi_model.specs.Kinds.{rbac_group}
use Rattle.kapi_model.specs.declared.kinds.RoleKind.{RoleKind}
use Rattle.kapi_model.specs.declared.kinds.RoleKind.TheVariants as role_kind
use Rattle.kapi_model.specs.declared.identity.Identity.{Identity}
use Rattle.kapi_model.specs.declared.role_ref.RoleRef.{RoleRef}
use Rattle.kapi_rules.specs.declared.point.Point.{Point}
use Rattle.kapi_rules.specs.declared.point.Point.TheVariants as point
use Rattle.kapi_policy.specs.Decided.{decided}
use Rattle.kapi_policy.specs.Laws.{is_allowed}
use Rattle.kapi_policy.specs.Objects.{PolicyObjects}
use Rattle.kapi_escalation.specs.Writes.{scope}
use Rattle.kapi_escalation.specs.declared.write.PolicyWrite.{PolicyWrite}
use Rattle.kapi_escalation.specs.declared.write.WrittenObject.{WrittenObject}
use Rattle.kapi_escalation.specs.declared.write.WrittenObject.TheVariants as written

-- the resource of the roles of a kind
abbrev pub plural : RoleKind → List ℕ
plural role_kind.Role = codes "roles"
plural role_kind.ClusterRole = codes "clusterroles"

-- a verb on the role of a kind and name
abbrev pub role_point : List ℕ → RoleKind → List ℕ → Point
role_point verb kind name =
    point.Resource (record { verb = verb; group = rbac_group; resource = plural kind; subresource = []; name = name })

-- to write a role with rules that the identity does not hold
abbrev pub escalating : RoleKind → List ℕ → Point
escalating kind name = role_point (codes "escalate") kind name

-- to bind a role with rules that the identity does not hold
abbrev pub binding : RoleRef → Point
binding role = role_point (codes "bind") role.kind role.name

-- the point that exempts a write: to escalate the roles of the name that the request asks for, or to bind the role
abbrev pub exemption : List ℕ → WrittenObject → Point
exemption request_name (written.Role place role) = escalating role_kind.Role request_name
exemption request_name (written.ClusterRole name versions) = escalating role_kind.ClusterRole request_name
exemption request_name (written.RoleBinding place versions) = binding versions.new.role_ref
exemption request_name (written.ClusterRoleBinding name versions) = binding versions.new.role_ref

-- the identity makes the write without holding its rules; members of `system:masters` may do everything
abbrev pub is_exempt : PolicyObjects → Identity → PolicyWrite → Bool
is_exempt objects identity w = is_allowed (decided objects identity (scope w.object) (exemption w.request_name w.object))
