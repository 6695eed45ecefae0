-- Why a run starts settled, and why the acting identities are unprivileged: a policy whose aggregated cluster role has
-- not its union yet, and one in which a user may bind (Kubernetes, 'Using RBAC Authorization', 'Aggregated
-- ClusterRoles' and 'Restrictions on role binding creation or update').
use Rattle.std.specs.Prelude.{ℕ, List, [], ◌∷◌, Some, None, codes}
use Rattle.kapi_model.specs.Kinds.{rbac_group}
use Rattle.kapi_model.specs.declared.kinds.RoleKind.TheVariants as role_kind
use Rattle.kapi_model.specs.declared.policy_rule.PolicyRule.{PolicyRule}
use Rattle.kapi_model.specs.declared.subject.Subject.TheVariants.{User}
use Rattle.kapi_model.specs.declared.binding.ClusterRoleBinding.{ClusterRoleBinding}
use Rattle.kapi_model.specs.declared.identity.Identity.{Identity}
use Rattle.kapi_model.specs.declared.role.ClusterRole.{ClusterRole}
use Rattle.kapi_rules.specs.Worked.{get_on}
use Rattle.kapi_escalation.specs.Laws.{write_of}
use Rattle.kapi_escalation.specs.declared.write.WrittenObject.TheVariants as written
use Rattle.kapi_escalation_laws.specs.States.{PolicyState}
use Rattle.kapi_escalation_laws.specs.Steps.{PolicyStep, turns, writes}

-- a user in no group: Eve
abbrev pub eve : Identity
eve = record { user = codes "eve"; groups = [] }

-- Eve has the cluster role of a name, everywhere
abbrev pub eve_has : List ℕ → ClusterRoleBinding
eve_has name = record { subjects = User (codes "eve") ∷ []; role_ref = record { kind = role_kind.ClusterRole; name = name } }

-- a cluster role with one rule of its own
abbrev pub with_rule : PolicyRule → ClusterRole
with_rule rule = record { aggregation_rule = None; rules = rule ∷ [] }

-- a cluster role that takes the rules of all others, with these rules of its own
abbrev pub taking_all : List PolicyRule → ClusterRole
taking_all rules = record {
  aggregation_rule = Some (record { cluster_role_selectors = record { match_labels = []; match_expressions = [] } ∷ [] });
  rules = rules;
}

-- two cluster roles, and bindings
abbrev pub policy_with : ClusterRole → ClusterRole → List (List ℕ × ClusterRoleBinding) → PolicyState
policy_with a b bindings = record {
  objects = record { roles = []; cluster_roles = (codes "a", a) ∷ (codes "b", b) ∷ []; role_bindings = []; cluster_role_bindings = bindings };
  labels = λ name. None;
}

-- Eve has the cluster role `b`, which has no rules yet, but takes those of `a`
abbrev pub unsettled : PolicyState
unsettled = policy_with (with_rule (get_on (codes "pods"))) (taking_all []) ((codes "c", eve_has (codes "b")) ∷ [])

-- Eve has the cluster role `b`, which has taken the rules of `a`
abbrev pub filled : PolicyState
filled = policy_with (with_rule (get_on (codes "pods"))) (taking_all (get_on (codes "pods") ∷ [])) ((codes "c", eve_has (codes "b")) ∷ [])

-- the turn that leads from `unsettled` to `filled`
abbrev pub turn_of_b : List PolicyStep
turn_of_b = turns (codes "b") ∷ []

-- the rule that allows to bind cluster roles
abbrev pub bind_any : PolicyRule
bind_any = record {
  verbs = codes "bind" ∷ [];
  api_groups = rbac_group ∷ [];
  resources = codes "clusterroles" ∷ [];
  resource_names = [];
  non_resource_urls = [];
}

-- Eve may bind any cluster role
abbrev pub binder : PolicyState
binder = policy_with (with_rule (get_on (codes "pods"))) (with_rule bind_any) ((codes "c", eve_has (codes "b")) ∷ [])

-- Eve has bound `a` to herself
abbrev pub bound : PolicyState
bound = policy_with (with_rule (get_on (codes "pods"))) (with_rule bind_any) ((codes "c", eve_has (codes "b")) ∷ (codes "d", eve_has (codes "a")) ∷ [])

-- Eve's write that leads from `binder` to `bound`
abbrev pub binding_of_a : List PolicyStep
binding_of_a =
    writes (record {
      writer = eve;
      made_as = eve;
      write = write_of [] (written.ClusterRoleBinding (codes "d") (record { old = None; new = eve_has (codes "a") }));
      labels = None;
    }) ∷ []
