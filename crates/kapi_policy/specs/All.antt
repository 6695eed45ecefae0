-- All bindings of a policy (Kubernetes, 'Using RBAC Authorization', 'RoleBinding and ClusterRoleBinding').
use Rattle.std.specs.Prelude.{◌==◌, Bool, not, List, ◌++◌, length, map}
use Rattle.std.specs.List.{filter}
use Rattle.kapi_model.specs.declared.binding.RoleBinding.{RoleBinding}
use Rattle.kapi_policy.specs.declared.change.NamespacedName.{NamespacedName}
use Rattle.kapi_policy.specs.Decided.{Binding, cluster_binding, namespace_binding}
use Rattle.kapi_policy.specs.Objects.{PolicyObjects}

-- a RoleBinding counts in its namespace, and without one nowhere
abbrev pub has_namespace : NamespacedName × RoleBinding → Bool
has_namespace entry = not (length entry.0.namespace == 0)

-- the RoleBindings that count somewhere
abbrev pub bindings_in_namespaces : List (NamespacedName × RoleBinding) → List Binding
bindings_in_namespaces entries = map namespace_binding (filter has_namespace entries)

-- the bindings that count somewhere: the ClusterRoleBindings, then the RoleBindings that have a namespace
unfoldable pub all_bindings : PolicyObjects → List Binding
all_bindings objects = map cluster_binding objects.cluster_role_bindings ++ bindings_in_namespaces objects.role_bindings
