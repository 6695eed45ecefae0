-- What stands in a policy without use (Kubernetes, 'Using RBAC Authorization', 'RoleBinding and ClusterRoleBinding').
use Rattle.std.specs.Prelude.{◌≡◌, ℕ, ◌==◌, nat_lt, Bool, false, not, ◌&&◌, ◌||◌, if◌then◌else◌, List, [], ◌∷◌, length, Option, Some, None}
use Rattle.std.specs.BTreeSet.{BTreeSet, contains}
use Rattle.std.specs.List.{enumerate_from, flat_map, list_any}
use Rattle.std.specs.Option.{is_some}
use Rattle.std.specs.Str.{bytes_eq}
use Rattle.kapi_model.specs.Subjects.{namespace_of}
use Rattle.kapi_model.specs.declared.kinds.RoleKind.{RoleKind}
use Rattle.kapi_model.specs.declared.kinds.RoleKind.TheVariants as role_kind
use Rattle.kapi_model.specs.declared.policy_rule.PolicyRule.{PolicyRule}
use Rattle.kapi_model.specs.declared.subject.Subject.{Subject}
use Rattle.kapi_model.specs.declared.subject.Subject.TheVariants.{User, Group, ServiceAccount as Account}
use Rattle.kapi_rules.specs.Missing.{CoversAll, missing}
use Rattle.kapi_policy.specs.Decided.{Binding, rules_of}
use Rattle.kapi_policy.specs.Objects.{PolicyObjects, place_cmp}
use Rattle.kapi_policy.specs.declared.change.NamespacedName.{NamespacedName}
use Rattle.kapi_aggregation.specs.Members.{Has}
use Rattle.kapi_access.specs.declared.dangling.Covered.{Covered}

-- ---- bindings

-- the role that the binding refers to does not exist
abbrev pub dangles : PolicyObjects → Binding → Bool
dangles objects b = not (is_some (rules_of objects b.role b.namespace))

-- the place, if it is not among the others
abbrev pub not_in : BTreeSet NamespacedName → NamespacedName → List NamespacedName
not_in places place = if contains place_cmp places place then [] else place ∷ []

-- the place of the account that a subject of a binding in the namespace is, if it is one and not among the others
abbrev pub absent : BTreeSet NamespacedName → List ℕ → Subject → List NamespacedName
absent accounts namespace (User name) = []
absent accounts namespace (Group name) = []
absent accounts namespace (Account a) = not_in accounts (record { namespace = namespace_of a namespace; name = a.name })

-- ---- roles

-- the place of the role that a binding in the namespace refers to: a cluster role's has no namespace, and cluster-wide there is no role
abbrev pub role_place : RoleKind → List ℕ → List ℕ → List NamespacedName
role_place role_kind.Role namespace name = if length namespace == 0 then [] else record { namespace = namespace; name = name } ∷ []
role_place role_kind.ClusterRole namespace name = record { namespace = []; name = name } ∷ []

-- the places of roles that bindings refer to
abbrev pub bound_places : List Binding → List NamespacedName
bound_places bindings = flat_map (λ b. role_place b.role.kind b.namespace b.role.name) bindings

-- both are the same place
abbrev pub same_place : NamespacedName → NamespacedName → Bool
same_place p q = bytes_eq p.namespace q.namespace && bytes_eq p.name q.name

-- some binding refers to the role at that place
abbrev pub is_bound : List Binding → NamespacedName → Bool
is_bound bindings place = list_any (same_place place) (bound_places bindings)

-- ---- rules

-- an atom of the other is implied by none of the one
abbrev pub covers : PolicyRule → PolicyRule → Bool
covers one other = length (missing (one ∷ []) (other ∷ [])) == 0

-- the rule of number j makes the one of number i needless: it covers it, and of two that cover each other it is the earlier
abbrev pub stands_for : ℕ → PolicyRule → ℕ → PolicyRule → Bool
stands_for j other i rule = not (j == i) && (covers other rule && (nat_lt j i || not (covers rule other)))

-- the number of the first rule that makes the one needless
abbrev pub first_for : ℕ → PolicyRule → List (ℕ × PolicyRule) → Option ℕ
first_for i rule [] = None
first_for i rule (e ∷ rules) = if stands_for e.0 e.1 i rule then Some e.0 else first_for i rule rules

-- a needless rule, by the one that covers it
abbrev pub covered_by : ℕ → Option ℕ → List Covered
covered_by i None = []
covered_by i (Some j) = record { rule = i; by = j } ∷ []

-- the needless rules of a role, each by the first that covers it
unfoldable pub covered : List PolicyRule → List Covered
covered rules = flat_map (λ e. covered_by e.0 (first_for e.0 e.1 (enumerate_from 0 rules))) (enumerate_from 0 rules)

-- both rules are the role's, and the one allows every request that the other allows
pub record IsCovered (rules : List PolicyRule) (c : Covered) : Type 0 where
  pub needless : PolicyRule
  pub other : PolicyRule
  pub listed : Has (enumerate_from 0 rules) (c.rule, needless)
  pub stays : Has (enumerate_from 0 rules) (c.by, other)
  pub apart : (c.by == c.rule) ≡ false
  pub allowed : CoversAll (other ∷ []) (needless ∷ [])
