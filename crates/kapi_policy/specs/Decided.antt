-- What bindings grant an identity, and what is allowed by it (Kubernetes, 'Using RBAC Authorization', 'RoleBinding and
-- ClusterRoleBinding').
use Rattle.std.specs.Prelude.{ℕ, ◌==◌, Bool, ◌&&◌, if◌then◌else◌, List, [], ◌∷◌, ◌++◌, length, map, Option, Some, None}
use Rattle.std.specs.List.{filter, flat_map, list_any, position}
use Rattle.std.specs.Map.{lookup}
use Rattle.std.specs.Option.{option_or, unwrap_or}
use Rattle.std.specs.Str.{bytes_eq}
use Rattle.kapi_model.specs.declared.kinds.RoleKind.{RoleKind}
use Rattle.kapi_model.specs.declared.kinds.RoleKind.TheVariants as role_kind
use Rattle.kapi_model.specs.declared.binding.ClusterRoleBinding.{ClusterRoleBinding}
use Rattle.kapi_model.specs.declared.binding.RoleBinding.{RoleBinding}
use Rattle.kapi_model.specs.declared.identity.Identity.{Identity}
use Rattle.kapi_model.specs.declared.policy_rule.PolicyRule.{PolicyRule}
use Rattle.kapi_model.specs.declared.role.ClusterRole.{ClusterRole}
use Rattle.kapi_model.specs.declared.role.Role.{Role}
use Rattle.kapi_model.specs.declared.role_ref.RoleRef.{RoleRef}
use Rattle.kapi_model.specs.declared.subject.Subject.{Subject}
use Rattle.kapi_model.specs.Identities.{is_master}
use Rattle.kapi_model.specs.Subjects.{subject_matches}
use Rattle.kapi_rules.specs.declared.point.Point.{Point}
use Rattle.kapi_rules.specs.Rules.{allows}
use Rattle.kapi_policy.specs.declared.change.NamespacedName.{NamespacedName}
use Rattle.kapi_policy.specs.declared.decision.BindingKind.{BindingKind}
use Rattle.kapi_policy.specs.declared.decision.BindingKind.TheVariants as kind
use Rattle.kapi_policy.specs.Objects.{PolicyObjects}

-- the place is one in the namespace
abbrev pub is_in : List ℕ → NamespacedName → Bool
is_in namespace place = bytes_eq place.namespace namespace

-- the place is that name in the namespace
abbrev pub is_place : List ℕ → List ℕ → NamespacedName → Bool
is_place namespace name place = is_in namespace place && bytes_eq place.name name

-- the rules of a Role, if it exists
abbrev pub rules_in : Option Role → Option (List PolicyRule)
rules_in None = None
rules_in (Some role) = Some role.rules

-- the rules of a ClusterRole, if it exists
abbrev pub cluster_rules_in : Option ClusterRole → Option (List PolicyRule)
cluster_rules_in None = None
cluster_rules_in (Some role) = Some role.rules

-- the rules of the role of a kind and name; a Role is in a namespace, so that cluster-wide there is none
abbrev pub rules_of_kind : PolicyObjects → RoleKind → List ℕ → List ℕ → Option (List PolicyRule)
rules_of_kind objects role_kind.Role name namespace =
    if length namespace == 0 then None else rules_in (lookup (is_place namespace name) objects.roles)
rules_of_kind objects role_kind.ClusterRole name namespace = cluster_rules_in (lookup (bytes_eq name) objects.cluster_roles)

-- the rules of the role that a binding refers to, if it exists; the namespace is empty for a ClusterRoleBinding
unfoldable pub rules_of : PolicyObjects → RoleRef → List ℕ → Option (List PolicyRule)
rules_of objects role namespace = rules_of_kind objects role.kind role.name namespace

-- a binding of either kind, its namespace empty if it is a ClusterRoleBinding
pub record Binding : Type 0 where
  pub kind : BindingKind
  pub namespace : List ℕ
  pub name : List ℕ
  pub subjects : List Subject
  pub role : RoleRef

-- a ClusterRoleBinding of a name, as a binding of either kind
abbrev pub cluster_binding : List ℕ × ClusterRoleBinding → Binding
cluster_binding entry = record {
  kind = kind.ClusterRoleBinding;
  namespace = [];
  name = entry.0;
  subjects = entry.1.subjects;
  role = entry.1.role_ref;
}

-- a RoleBinding at its place, as a binding of either kind
abbrev pub namespace_binding : NamespacedName × RoleBinding → Binding
namespace_binding entry = record {
  kind = kind.RoleBinding;
  namespace = entry.0.namespace;
  name = entry.0.name;
  subjects = entry.1.subjects;
  role = entry.1.role_ref;
}

-- the RoleBindings of a namespace
abbrev pub bindings_of : List ℕ → List (NamespacedName × RoleBinding) → List Binding
bindings_of namespace entries = map namespace_binding (filter (λ entry. is_in namespace entry.0) entries)

-- the bindings that count in a namespace, in the order in which they are checked: all ClusterRoleBindings, then, unless
-- the question is cluster-wide, the RoleBindings of the namespace
unfoldable pub bindings_in : PolicyObjects → List ℕ → List Binding
bindings_in objects namespace =
    map cluster_binding objects.cluster_role_bindings
    ++ (if length namespace == 0 then [] else bindings_of namespace objects.role_bindings)

-- the rules that a binding grants the identity: its role's, if a subject matches the identity and the role exists
unfoldable pub given : PolicyObjects → Identity → Binding → Option (List PolicyRule)
given objects identity b =
    if list_any (λ s. subject_matches s b.namespace identity) b.subjects then rules_of objects b.role b.namespace else None

-- the rules that the identity holds in a namespace, in order
unfoldable pub held : PolicyObjects → Identity → List ℕ → List PolicyRule
held objects identity namespace = flat_map (λ b. unwrap_or (given objects identity b) []) (bindings_in objects namespace)

-- the binding and the index in its role's rules that a grant names
pub record Granted : Type 0 where
  pub kind : BindingKind
  pub binding : List ℕ
  pub role : RoleRef
  pub rule : ℕ

-- what is decided: allowed, and by what; allowed to a member of system:masters; or denied
pub data Decided : Type 0 where
  allowed : Granted → Decided
  masters : Decided
  denied : Decided

-- the grant that names a binding and a rule of its role, if there is such a rule
abbrev pub granted_at : Binding → Option ℕ → Option Granted
granted_at b None = None
granted_at b (Some index) = Some (record { kind = b.kind; binding = b.name; role = b.role; rule = index })

-- the first rule of the binding that allows the point, among those that it grants the identity
unfoldable pub granted_by : PolicyObjects → Identity → Point → Binding → Option Granted
granted_by objects identity point b = granted_at b (position (λ rule. allows rule point) (unwrap_or (given objects identity b) []))

-- the first answer that there is
abbrev pub first_some : {X Y : Type 0} → (X → Option Y) → List X → Option Y
first_some f [] = None
first_some f (x ∷ xs) = option_or (f x) (first_some f xs)

-- the first rule that allows the point, among those that the identity holds in the namespace
unfoldable pub granted : PolicyObjects → Identity → List ℕ → Point → Option Granted
granted objects identity namespace point = first_some (granted_by objects identity point) (bindings_in objects namespace)

-- the decision of a user who is not in system:masters
abbrev pub allowed_if : Option Granted → Decided
allowed_if None = denied
allowed_if (Some g) = allowed g

-- the decision: the group that may do everything comes before any binding
unfoldable pub decided : PolicyObjects → Identity → List ℕ → Point → Decided
decided objects identity namespace point =
    if is_master identity then masters else allowed_if (granted objects identity namespace point)
