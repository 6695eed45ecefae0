-- The policy that the stored objects are (Kubernetes API, rbac.authorization.k8s.io/v1), and what a write changes in
-- it.
use Rattle.std.specs.Prelude.{ℕ, List, [], ◌∷◌, Option, Some, None}
use Rattle.std.specs.List.{flat_map}
use Rattle.serde_json.specs.Data.{Data}
use Rattle.kapi_rbac_types.specs.Trees.{role_of, cluster_role_of, role_binding_of, cluster_role_binding_of}
use Rattle.kapi_policy.specs.Objects.{PolicyObjects}
use Rattle.kapi_policy.specs.declared.change.NamespacedName.{NamespacedName}
use Rattle.kapi_policy.specs.declared.change.PolicyChange.{PolicyChange}
use Rattle.kapi_policy.specs.declared.change.PolicyChange.TheVariants as change
use Rattle.kapi_policy.specs.declared.change.PolicyKey.{PolicyKey}
use Rattle.kapi_policy.specs.declared.change.PolicyKey.TheVariants as key
use Rattle.kapi_policy.specs.declared.change.PolicyPut.{PolicyPut}
use Rattle.kapi_policy.specs.declared.change.PolicyPut.TheVariants as put
use Rattle.kapi_store.specs.Plain.{PlainChange}
use Rattle.kapi_store.specs.declared.key.Key.{Key}
use Rattle.kapi_escalation.specs.Kind.{place_of, policy_kind}
use Rattle.kapi_escalation.specs.declared.kind.PolicyKind.{PolicyKind}
use Rattle.kapi_escalation.specs.declared.kind.PolicyKind.TheVariants as kind

-- ---- the policy

module _ {K X : Type 0} where
  -- an entry in front, if there is a place
  abbrev pub entry_if : Option K → X → List (K × X) → List (K × X)
  entry_if None x es = es
  entry_if (Some k) x es = (k, x) ∷ es

  -- the objects whose keys are places of the kind, as they are read, in their order
  unfoldable pub collected : (Key → Option K) → (Data → X) → List (Key × Data) → List (K × X)
  collected place read [] = []
  collected place read (e ∷ os) = entry_if (place e.0) (read e.1) (collected place read os)

-- the place of a role, if the kind is that of roles
abbrev pub role_at : Option PolicyKind → Key → Option NamespacedName
role_at (Some kind.Role) k = Some (place_of k)
role_at _ k = None

-- the place of a role binding, if the kind is that of role bindings
abbrev pub role_binding_at : Option PolicyKind → Key → Option NamespacedName
role_binding_at (Some kind.RoleBinding) k = Some (place_of k)
role_binding_at _ k = None

-- the name of a cluster role, if the kind is that of cluster roles
abbrev pub cluster_role_at : Option PolicyKind → Key → Option (List ℕ)
cluster_role_at (Some kind.ClusterRole) k = Some k.name
cluster_role_at _ k = None

-- the name of a cluster role binding, if the kind is that of cluster role bindings
abbrev pub cluster_role_binding_at : Option PolicyKind → Key → Option (List ℕ)
cluster_role_binding_at (Some kind.ClusterRoleBinding) k = Some k.name
cluster_role_binding_at _ k = None

-- the place of a role, if the key is one of a role
abbrev pub role_place : Key → Option NamespacedName
role_place k = role_at (policy_kind k) k

-- the place of a role binding, if the key is one of a role binding
abbrev pub role_binding_place : Key → Option NamespacedName
role_binding_place k = role_binding_at (policy_kind k) k

-- the name of a cluster role, if the key is one of a cluster role
abbrev pub cluster_role_place : Key → Option (List ℕ)
cluster_role_place k = cluster_role_at (policy_kind k) k

-- the name of a cluster role binding, if the key is one of a cluster role binding
abbrev pub cluster_role_binding_place : Key → Option (List ℕ)
cluster_role_binding_place k = cluster_role_binding_at (policy_kind k) k

-- the roles and bindings among the objects
unfoldable pub policy_objects : List (Key × Data) → PolicyObjects
policy_objects os = record {
  roles = collected role_place role_of os;
  cluster_roles = collected cluster_role_place cluster_role_of os;
  role_bindings = collected role_binding_place role_binding_of os;
  cluster_role_bindings = collected cluster_role_binding_place cluster_role_binding_of os;
}

-- ---- its changes

-- a tree is put at the place of a policy object
abbrev pub put_at : PolicyKind → Key → Data → PolicyPut
put_at kind.Role k tree = put.Role (place_of k) (role_of tree)
put_at kind.RoleBinding k tree = put.RoleBinding (place_of k) (role_binding_of tree)
put_at kind.ClusterRole k tree = put.ClusterRole k.name (cluster_role_of tree)
put_at kind.ClusterRoleBinding k tree = put.ClusterRoleBinding k.name (cluster_role_binding_of tree)

-- the place of a policy object
abbrev pub key_at : PolicyKind → Key → PolicyKey
key_at kind.Role k = key.Role (place_of k)
key_at kind.RoleBinding k = key.RoleBinding (place_of k)
key_at kind.ClusterRole k = key.ClusterRole k.name
key_at kind.ClusterRoleBinding k = key.ClusterRoleBinding k.name

-- what a write that leaves a tree, or none, changes at the place of a policy object
abbrev pub change_at : PolicyKind → Key → Option Data → PolicyChange
change_at of k (Some tree) = change.Put (put_at of k tree)
change_at of k None = change.Delete (key_at of k)

-- what a write that leaves a tree, or none, changes at a key: nothing if the key is no place of a policy object
abbrev pub changes_at : Option PolicyKind → Key → Option Data → List PolicyChange
changes_at (Some of) k left = change_at of k left ∷ []
changes_at None k left = []

-- what a change of the store changes in the policy
abbrev pub policy_change : PlainChange → List PolicyChange
policy_change c = changes_at (policy_kind c.key) c.key c.new

-- what the changes of a write change in the policy, in their order
unfoldable pub policy_changes : List PlainChange → List PolicyChange
policy_changes cs = flat_map policy_change cs
