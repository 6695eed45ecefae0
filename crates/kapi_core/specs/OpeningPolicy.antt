-- The policy that every machine begins with (Kubernetes, 'Using RBAC Authorization', user-facing roles and API
-- discovery roles).
use Rattle.std.specs.Prelude.{ℕ, List, [], ◌∷◌, None, codes}
use Rattle.kapi_model.specs.declared.kinds.RoleKind.TheVariants as role_kind
use Rattle.kapi_model.specs.declared.policy_rule.PolicyRule.{PolicyRule}
use Rattle.kapi_model.specs.declared.subject.Subject.TheVariants.{Group}
use Rattle.kapi_model.specs.declared.binding.ClusterRoleBinding.{ClusterRoleBinding}
use Rattle.kapi_model.specs.declared.role.ClusterRole.{ClusterRole}
use Rattle.kapi_policy.specs.Objects.{PolicyObjects}

-- one word, or all words
abbrev pub word : List ℕ → List (List ℕ)
word text = text ∷ []

-- the rule that allows every verb on every resource
abbrev pub any_resource : PolicyRule
any_resource = record { verbs = word (codes "*"); api_groups = word (codes "*"); resources = word (codes "*"); resource_names = []; non_resource_urls = [] }

-- the rule that allows every verb on every path
abbrev pub any_path : PolicyRule
any_path = record { verbs = word (codes "*"); api_groups = []; resources = []; resource_names = []; non_resource_urls = word (codes "*") }

-- the rule that allows to review one's own access
abbrev pub ask_of_oneself : PolicyRule
ask_of_oneself = record {
  verbs = word (codes "create");
  api_groups = word (codes "authorization.k8s.io");
  resources = codes "selfsubjectaccessreviews" ∷ codes "selfsubjectrulesreviews" ∷ [];
  resource_names = [];
  non_resource_urls = [];
}

-- a cluster role with rules of its own
abbrev pub role_with : List PolicyRule → ClusterRole
role_with rules = record { aggregation_rule = None; rules = rules }

-- a group has the cluster role of a name
abbrev pub group_has : List ℕ → List ℕ → ClusterRoleBinding
group_has group name = record { subjects = Group group ∷ []; role_ref = record { kind = role_kind.ClusterRole; name = name } }

-- members of `system:masters` may do everything, and every user with a name may review their own access
abbrev pub opening_policy : PolicyObjects
opening_policy = record {
  roles = [];
  cluster_roles = (codes "cluster-admin", role_with (any_resource ∷ any_path ∷ [])) ∷ (codes "system:basic-user", role_with (ask_of_oneself ∷ [])) ∷ [];
  role_bindings = [];
  cluster_role_bindings =
      (codes "cluster-admin", group_has (codes "system:masters") (codes "cluster-admin"))
      ∷ (codes "system:basic-user", group_has (codes "system:authenticated") (codes "system:basic-user"))
      ∷ [];
}
