-- What is suggested as the roles and bindings of a policy.
use Rattle.std.specs.Prelude.{ℕ, ◌==◌, ◌+◌, ◌<◌, ◌^◌, Bool, not, List, length, map, None}
use Rattle.std.specs.List.{enumerate_from, filter}
use Rattle.kapi_model.specs.declared.binding.ClusterRoleBinding.{ClusterRoleBinding}
use Rattle.kapi_model.specs.declared.binding.RoleBinding.{RoleBinding}
use Rattle.kapi_model.specs.declared.role.ClusterRole.{ClusterRole}
use Rattle.kapi_model.specs.declared.role.Role.{Role}
use Rattle.kapi_policy.specs.Objects.{PolicyObjects}
use Rattle.kapi_policy.specs.declared.change.NamespacedName.{NamespacedName}
use Rattle.kapi_reviews.specs.declared.question.Question.{Question}
use Rattle.kapi_suggest.specs.Needs.{suggested}
use Rattle.kapi_suggest.specs.Printed.{name_of, role_ref_for, subjects_for}
use Rattle.kapi_suggest.specs.declared.suggested.Suggested.{Suggested}

-- it counts in the whole cluster
abbrev pub is_wide : ℕ × Suggested → Bool
is_wide n = length n.1.at.namespace == 0

abbrev pub is_local : ℕ × Suggested → Bool
is_local n = not (is_wide n)

-- the place of its role and of its binding
abbrev pub place_of : ℕ × Suggested → NamespacedName
place_of n = record { namespace = n.1.at.namespace; name = name_of n.0 }

abbrev pub role_of : ℕ × Suggested → NamespacedName × Role
role_of n = (place_of n, record { rules = n.1.rules })

abbrev pub cluster_role_of : ℕ × Suggested → List ℕ × ClusterRole
cluster_role_of n = (name_of n.0, record { aggregation_rule = None; rules = n.1.rules })

abbrev pub binding_of : ℕ × Suggested → NamespacedName × RoleBinding
binding_of n = (place_of n, record { subjects = subjects_for n.1; role_ref = role_ref_for (name_of n.0) n.1 })

abbrev pub cluster_binding_of : ℕ × Suggested → List ℕ × ClusterRoleBinding
cluster_binding_of n = (name_of n.0, record { subjects = subjects_for n.1; role_ref = role_ref_for (name_of n.0) n.1 })

-- the roles and bindings that are printed, in the order of their numbers
unfoldable pub policy_of : List (ℕ × Suggested) → PolicyObjects
policy_of numbered = record {
  roles = map role_of (filter is_local numbered);
  cluster_roles = map cluster_role_of (filter is_wide numbered);
  role_bindings = map binding_of (filter is_local numbered);
  cluster_role_bindings = map cluster_binding_of (filter is_wide numbered);
}

-- the policy that is suggested for some uses, numbered from 1
unfoldable pub suggestion : List Question → PolicyObjects
suggestion uses = policy_of (enumerate_from 1 (suggested uses))

-- the numbers fit 64 bits, as those of every list in memory do
abbrev pub AreFew : List Question → Type 0
AreFew uses = 1 + length (suggested uses) < 2 ^ 64
