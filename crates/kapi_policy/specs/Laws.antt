-- How decisions and held rules relate to one another, and what changes leave.
use Rattle.std.specs.Prelude.{◌≡◌, ℕ, Bool, true, false, if◌then◌else◌, List, [], ◌∷◌, ◌++◌, Option, Some, None}
use Rattle.std.specs.List.{flat_map, list_any, position}
use Rattle.std.specs.Option.{unwrap_or}
use Rattle.kapi_model.specs.declared.identity.Identity.{Identity}
use Rattle.kapi_model.specs.declared.policy_rule.PolicyRule.{PolicyRule}
use Rattle.kapi_rules.specs.declared.point.Point.{Point}
use Rattle.kapi_rules.specs.Rules.{allows}
use Rattle.kapi_policy.specs.Decided.{Binding, bindings_in, Decided, allowed, masters, denied, given, Granted}
use Rattle.std.specs.BTreeMap.{is_at}
use Rattle.std.specs.List.Sorted.{IsStrictlySortedBy}
use Rattle.std.specs.Map.{keys_of, lookup}
use Rattle.std.specs.Ordering.{is_eq}
use Rattle.std.specs.declared.cmp.Ordering.{Ordering}
use Rattle.kapi_policy.specs.declared.change.PolicyKey.{PolicyKey}
use Rattle.kapi_policy.specs.declared.change.PolicyKey.TheVariants as key
use Rattle.kapi_policy.specs.declared.change.PolicyPut.{PolicyPut}
use Rattle.kapi_policy.specs.declared.change.PolicyPut.TheVariants as put
use Rattle.kapi_policy.specs.Objects.{PolicyObjects, name_cmp, place_cmp}

-- the decision allows the request
abbrev pub is_allowed : Decided → Bool
is_allowed (allowed g) = true
is_allowed masters = true
is_allowed denied = false

-- the rules that a binding grants the identity, none if it grants none
abbrev pub rules_by : PolicyObjects → Identity → Binding → List PolicyRule
rules_by objects identity b = unwrap_or (given objects identity b) []

-- the same rules, in whatever order and however often: what some rule of one passes, some rule of the other passes
abbrev pub AreSameRules : List PolicyRule → List PolicyRule → Type 0
AreSameRules some others = (test : PolicyRule → Bool) → list_any test some ≡ list_any test others

-- the grant names the first rule that allows the point: it is one of a binding that counts; no rule that an earlier
-- binding grants allows the point, nor does an earlier rule of its own role
pub record NamesFirst (objects : PolicyObjects) (identity : Identity) (namespace : List ℕ) (point : Point) (g : Granted) : Type 0 where
  pub before : List Binding
  pub binding : Binding
  pub after : List Binding
  pub listed : bindings_in objects namespace ≡ before ++ binding ∷ after
  pub earlier : list_any (λ rule. allows rule point) (flat_map (rules_by objects identity) before) ≡ false
  pub first : position (λ rule. allows rule point) (rules_by objects identity binding) ≡ Some g.rule
  pub named : g ≡ record { kind = binding.kind; binding = binding.name; role = binding.role; rule = g.rule }

-- the objects without those in namespaces
abbrev pub cluster_wide : PolicyObjects → PolicyObjects
cluster_wide objects = record objects { roles = []; role_bindings = [] }

-- each list is in the order of its names, each once
pub record IsInOrder (objects : PolicyObjects) : Type 0 where
  pub roles : IsStrictlySortedBy place_cmp (keys_of objects.roles)
  pub cluster_roles : IsStrictlySortedBy name_cmp (keys_of objects.cluster_roles)
  pub role_bindings : IsStrictlySortedBy place_cmp (keys_of objects.role_bindings)
  pub cluster_role_bindings : IsStrictlySortedBy name_cmp (keys_of objects.cluster_role_bindings)

-- the map has the object at that key, or none, and at each other key what it had before
abbrev pub Sets : {K X : Type 0} → (K → K → Ordering) → K → Option X → List (K × X) → List (K × X) → Type 0
Sets {K} cmp k object old new = (q : K) → lookup (is_at (cmp q)) new ≡ (if is_eq (cmp q k) then object else lookup (is_at (cmp q)) old)

-- a put changes one object of one kind
abbrev pub IsWith : PolicyPut → PolicyObjects → PolicyObjects → Type 0
IsWith (put.Role place r) old new = Sets place_cmp place (Some r) old.roles new.roles × (new ≡ record old { roles = new.roles })
IsWith (put.ClusterRole name r) old new = Sets name_cmp name (Some r) old.cluster_roles new.cluster_roles × (new ≡ record old { cluster_roles = new.cluster_roles })
IsWith (put.RoleBinding place b) old new = Sets place_cmp place (Some b) old.role_bindings new.role_bindings × (new ≡ record old { role_bindings = new.role_bindings })
IsWith (put.ClusterRoleBinding name b) old new = Sets name_cmp name (Some b) old.cluster_role_bindings new.cluster_role_bindings × (new ≡ record old { cluster_role_bindings = new.cluster_role_bindings })

-- a deletion removes one object of one kind
abbrev pub IsWithout : PolicyKey → PolicyObjects → PolicyObjects → Type 0
IsWithout (key.Role place) old new = Sets place_cmp place None old.roles new.roles × (new ≡ record old { roles = new.roles })
IsWithout (key.ClusterRole name) old new = Sets name_cmp name None old.cluster_roles new.cluster_roles × (new ≡ record old { cluster_roles = new.cluster_roles })
IsWithout (key.RoleBinding place) old new = Sets place_cmp place None old.role_bindings new.role_bindings × (new ≡ record old { role_bindings = new.role_bindings })
IsWithout (key.ClusterRoleBinding name) old new = Sets name_cmp name None old.cluster_role_bindings new.cluster_role_bindings × (new ≡ record old { cluster_role_bindings = new.cluster_role_bindings })
