-- The policy objects that an indexed policy holds, by namespaces.
use Rattle.std.specs.Prelude.{◌≡◌, ◌==◌, ℕ, List, [], ◌∷◌, if◌then◌else◌, length, map, Option, Some, None, string_bytes}
use Rattle.std.specs.List.{flat_map, position}
use Rattle.std.specs.List.Sorted.{IsStrictlySortedBy}
use Rattle.std.specs.Map.{keys_of}
use Rattle.std.specs.Option.{unwrap_or}
use Rattle.std.specs.declared.string.String.{String}
use Rattle.kapi_model.specs.declared.binding.ClusterRoleBinding.{ClusterRoleBinding}
use Rattle.kapi_model.specs.declared.binding.RoleBinding.{RoleBinding}
use Rattle.kapi_model.specs.declared.role.Role.{Role}
use Rattle.kapi_rules.specs.Rules.{allows}
use Rattle.kapi_rules.specs.declared.point.Point.{Point}
use Rattle.kapi_policy.specs.declared.change.NamespacedName.{NamespacedName}
use Rattle.kapi_policy.specs.declared.decision.BindingKind.{BindingKind}
use Rattle.kapi_policy.specs.declared.decision.BindingKind.TheVariants as kind
use Rattle.kapi_policy.specs.Decided.{Binding, Granted, granted_at, rules_of}
use Rattle.kapi_policy.specs.Objects.{PolicyObjects, name_cmp}
use Rattle.kapi_index.specs.Scopes.{Scoped}
use Rattle.kapi_index.specs.declared.spaces.Namespace.{Namespace}

-- the namespaces by the bytes of their names
abbrev pub by_text : {Y X : Type 0} → List (String Y × X) → List (List ℕ × X)
by_text spaces = map (λ s. (string_bytes s.0, s.1)) spaces

-- the roles of a namespace, by name
abbrev pub roles_in : Namespace → List (List ℕ × Role)
roles_in space = space.roles.entries

-- the RoleBindings of a namespace, by name
abbrev pub bindings_in : Namespace → List (List ℕ × RoleBinding)
bindings_in space = space.bound.bindings

-- the place of an object that has a name in a namespace
abbrev pub placed : {X : Type 0} → List ℕ → List ℕ × X → NamespacedName × X
placed namespace e = (record { namespace = namespace; name = e.0 }, e.1)

-- the objects of all namespaces, each at its place
abbrev pub in_all : {X : Type 0} → (Namespace → List (List ℕ × X)) → List (List ℕ × Namespace) → List (NamespacedName × X)
in_all held spaces = flat_map (λ s. map (placed s.0) (held s.1)) spaces

-- the objects of a namespace, if it is there
abbrev pub in_one : {X : Type 0} → (Namespace → List (List ℕ × X)) → Option Namespace → List (List ℕ × X)
in_one held None = []
in_one held (Some space) = held space

-- each namespace is under its name
abbrev pub AreNamed : List (List ℕ × Namespace) → Type 0
AreNamed [] = Unit {0}
AreNamed (s ∷ spaces) = (s.1.bound.namespace ≡ s.0) × AreNamed spaces

-- the namespaces are in order, each under its name
pub record AreDistinct (spaces : List (List ℕ × Namespace)) : Type 0 where
  pub sorted : IsStrictlySortedBy name_cmp (keys_of spaces)
  pub named : AreNamed spaces

-- what contracts see of a namespace: its roles and bindings
pub record NamespaceContents : Type 0 where
  pub roles : List (List ℕ × Role)
  pub bound : Scoped

-- a namespace as it is seen
abbrev pub part : Namespace → NamespaceContents
part space = record { roles = space.roles.entries; bound = space.bound }

-- the namespaces as they are seen, each with its name
abbrev pub parts : List (List ℕ × Namespace) → List (List ℕ × NamespaceContents)
parts spaces = map (λ s. (s.0, part s.1)) spaces

-- a binding as one that counts cluster-wide
abbrev pub cluster_wide : List ℕ × RoleBinding → List ℕ × ClusterRoleBinding
cluster_wide e = (e.0, record { subjects = e.1.subjects; role_ref = e.1.role_ref })

-- a binding of a kind in a namespace
abbrev pub binding_at : BindingKind → List ℕ → List ℕ × RoleBinding → Binding
binding_at kind namespace e = record { kind = kind; namespace = namespace; name = e.0; subjects = e.1.subjects; role = e.1.role_ref }

-- what a binding grants the identities that it matches
abbrev pub grant_of : PolicyObjects → Point → Binding → Option Granted
grant_of objects point b = granted_at b (position (λ rule. allows rule point) (unwrap_or (rules_of objects b.role b.namespace) []))

-- the cluster-wide bindings have no namespace, and the namespaces are in order, each under its name
pub record IsWhole (cluster : Scoped) (spaces : List (List ℕ × Namespace)) : Type 0 where
  pub cluster_wide : cluster.namespace ≡ []
  pub spread : AreDistinct spaces

-- the bindings of a namespace that count somewhere: all, unless its name is empty
unfoldable pub bindings_of_space : List ℕ → Namespace → List Binding
bindings_of_space namespace space = if length namespace == 0 then [] else map (binding_at kind.RoleBinding namespace) space.bound.bindings
