-- The policy objects (Kubernetes API, rbac.authorization.k8s.io/v1): four finite maps, and what a change makes of them.
use Rattle.std.specs.Prelude.{ℕ, List, []}
use Rattle.std.specs.Ordering.{nat_cmp, ordering_then}
use Rattle.std.specs.declared.cmp.Ordering.{Ordering}
use Rattle.std.specs.Cmp.Lexicographic.{slice_cmp}
use Rattle.std.specs.Map.{remove_entry}
use Rattle.std.specs.BTreeMap.{insert_entry, is_at}
use Rattle.kapi_model.specs.declared.role.Role.{Role}
use Rattle.kapi_model.specs.declared.role.ClusterRole.{ClusterRole}
use Rattle.kapi_model.specs.declared.binding.RoleBinding.{RoleBinding}
use Rattle.kapi_model.specs.declared.binding.ClusterRoleBinding.{ClusterRoleBinding}
use Rattle.kapi_policy.specs.declared.change.NamespacedName.{NamespacedName}
use Rattle.kapi_policy.specs.declared.change.PolicyChange.{PolicyChange}
use Rattle.kapi_policy.specs.declared.change.PolicyChange.TheVariants as change
use Rattle.kapi_policy.specs.declared.change.PolicyKey.{PolicyKey}
use Rattle.kapi_policy.specs.declared.change.PolicyKey.TheVariants as key
use Rattle.kapi_policy.specs.declared.change.PolicyPut.{PolicyPut}
use Rattle.kapi_policy.specs.declared.change.PolicyPut.TheVariants as put

-- the objects of each kind, in the order of their names
pub record PolicyObjects : Type 0 where
  pub roles : List (NamespacedName × Role)
  pub cluster_roles : List (List ℕ × ClusterRole)
  pub role_bindings : List (NamespacedName × RoleBinding)
  pub cluster_role_bindings : List (List ℕ × ClusterRoleBinding)

-- the policy without any object
abbrev pub no_objects : PolicyObjects
no_objects = record { roles = []; cluster_roles = []; role_bindings = []; cluster_role_bindings = [] }

-- names are in order of their bytes
abbrev pub name_cmp : List ℕ → List ℕ → Ordering
name_cmp = slice_cmp nat_cmp

-- places are in order of namespace and name
abbrev pub place_cmp : NamespacedName → NamespacedName → Ordering
place_cmp a b = ordering_then (name_cmp a.namespace b.namespace) (name_cmp a.name b.name)

-- the objects with that one at its place
unfoldable pub with_object : PolicyPut → PolicyObjects → PolicyObjects
with_object (put.Role place r) objects = record objects { roles = insert_entry place_cmp objects.roles place r }
with_object (put.ClusterRole name r) objects = record objects { cluster_roles = insert_entry name_cmp objects.cluster_roles name r }
with_object (put.RoleBinding place b) objects = record objects { role_bindings = insert_entry place_cmp objects.role_bindings place b }
with_object (put.ClusterRoleBinding name b) objects = record objects { cluster_role_bindings = insert_entry name_cmp objects.cluster_role_bindings name b }

-- the objects without the one at that place
unfoldable pub without_object : PolicyKey → PolicyObjects → PolicyObjects
without_object (key.Role place) objects = record objects { roles = remove_entry (is_at (place_cmp place)) objects.roles }
without_object (key.ClusterRole name) objects = record objects { cluster_roles = remove_entry (is_at (name_cmp name)) objects.cluster_roles }
without_object (key.RoleBinding place) objects = record objects { role_bindings = remove_entry (is_at (place_cmp place)) objects.role_bindings }
without_object (key.ClusterRoleBinding name) objects = record objects { cluster_role_bindings = remove_entry (is_at (name_cmp name)) objects.cluster_role_bindings }

-- the objects after a change
unfoldable pub applied : PolicyChange → PolicyObjects → PolicyObjects
applied (change.Put p) objects = with_object p objects
applied (change.Delete k) objects = without_object k objects
