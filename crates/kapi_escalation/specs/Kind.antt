-- Which keys are places of policy objects (Kubernetes API, rbac.authorization.k8s.io/v1).
use Rattle.std.specs.Prelude.{◌==◌, if◌then◌else◌, length, Option, Some, None, codes}
use Rattle.std.specs.Str.{bytes_eq}
use Rattle.kapi_model.specs.Kinds.{rbac_group}
use Rattle.kapi_store.specs.declared.key.Key.{Key}
use Rattle.kapi_policy.specs.declared.change.NamespacedName.{NamespacedName}
use Rattle.kapi_escalation.specs.declared.kind.PolicyKind.{PolicyKind}
use Rattle.kapi_escalation.specs.declared.kind.PolicyKind.TheVariants as kind

-- the kinds whose objects are in no namespace
abbrev pub cluster_kind : Key → Option PolicyKind
cluster_kind k =
    if length k.namespace == 0 then
    (if bytes_eq k.resource (codes "clusterroles") then Some kind.ClusterRole
    else (if bytes_eq k.resource (codes "clusterrolebindings") then Some kind.ClusterRoleBinding
    else None))
    else None

-- the kind of the policy object at a key, if the key is the place of one
unfoldable pub policy_kind : Key → Option PolicyKind
policy_kind k =
    if bytes_eq k.group rbac_group then
    (if bytes_eq k.resource (codes "roles") then Some kind.Role
    else (if bytes_eq k.resource (codes "rolebindings") then Some kind.RoleBinding
    else cluster_kind k))
    else None

-- the place of an object that is in a namespace
abbrev pub place_of : Key → NamespacedName
place_of k = record { namespace = k.namespace; name = k.name }
