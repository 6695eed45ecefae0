-- Which rights cover what is written (Kubernetes, 'Using RBAC Authorization', 'Privilege escalation prevention and
-- bootstrapping').
use Rattle.std.specs.Prelude.{◌≡◌, ◌⊎◌, ℕ, true, List, [], Some}
use Rattle.std.specs.List.{flat_map}
use Rattle.kapi_model.specs.declared.kinds.RoleKind.{RoleKind}
use Rattle.kapi_model.specs.declared.kinds.RoleKind.TheVariants as role_kind
use Rattle.kapi_model.specs.declared.policy_rule.PolicyRule.{PolicyRule}
use Rattle.kapi_model.specs.declared.identity.Identity.{Identity}
use Rattle.kapi_model.specs.declared.role.ClusterRole.{ClusterRole}
use Rattle.kapi_rules.specs.Atoms.{atoms, implies}
use Rattle.kapi_rules.specs.declared.atom.Atom.{Atom}
use Rattle.kapi_aggregation.specs.Roles.{takes_from}
use Rattle.kapi_policy.specs.Decided.{Binding, bindings_in, held, rules_of_kind}
use Rattle.kapi_policy.specs.Laws.{IsInOrder}
use Rattle.kapi_policy.specs.Objects.{PolicyObjects}
use Rattle.kapi_aggregation.specs.Members.{Has}
use Rattle.kapi_escalation_laws.specs.States.{Labels, cluster_role_at, labelled}

-- some of the rules has the atom
abbrev pub HasAtom : List PolicyRule → Atom → Type 0
HasAtom rules a = Has (flat_map atoms rules) a

-- the role of a kind and name is there and has the atom
pub record RoleHas (objects : PolicyObjects) (kind : RoleKind) (name namespace : List ℕ) (a : Atom) : Type 0 where
  pub rules : List PolicyRule
  pub found : rules_of_kind objects kind name namespace ≡ Some rules
  pub has : HasAtom rules a

-- the rules of a cluster role count cluster-wide, and those of a role in its namespace
abbrev pub scope_of : RoleKind → List ℕ → List ℕ
scope_of role_kind.Role namespace = namespace
scope_of role_kind.ClusterRole namespace = []

-- an acting identity held at the start, in the namespace, an atom that implies this one
pub record IsOwn (acting : List Identity) (start : PolicyObjects) (namespace : List ℕ) (a : Atom) : Type 0 where
  pub who : Identity
  pub acts : Has acting who
  pub held_one : Atom
  pub holds : HasAtom (held start who namespace) held_one
  pub implied : implies held_one a ≡ true

-- what an acting identity holds is within what the acting identities held at the start
abbrev pub ActorsHoldOwn : List Identity → PolicyObjects → PolicyObjects → Type 0
ActorsHoldOwn acting start now =
    (who : Identity) (namespace : List ℕ) (a : Atom) → Has acting who → HasAtom (held now who namespace) a → IsOwn acting start namespace a

-- what a role has is within what the acting identities held at the start, or the role had it then
abbrev pub RolesStayWithin : List Identity → PolicyObjects → PolicyObjects → Type 0
RolesStayWithin acting start now =
    (kind : RoleKind) (name namespace : List ℕ) (a : Atom) → RoleHas now kind name namespace a
    → IsOwn acting start (scope_of kind namespace) a ⊎ RoleHas start kind name namespace a

-- from one moment to a later one a role gets only what is within what the acting identities held at the start
abbrev pub RolesNeverGrow : List Identity → PolicyObjects → PolicyObjects → PolicyObjects → Type 0
RolesNeverGrow acting start now later =
    (kind : RoleKind) (name namespace : List ℕ) (a : Atom) → RoleHas later kind name namespace a
    → IsOwn acting start (scope_of kind namespace) a ⊎ RoleHas now kind name namespace a

-- what a turn would add to a cluster role is within what the acting identities held at the start, or is in the role
abbrev pub TurnsStayWithin : List Identity → PolicyObjects → PolicyObjects → Labels → Type 0
TurnsStayWithin acting start now labels =
    (name other : List ℕ) (r c : ClusterRole) (a : Atom) → cluster_role_at now name ≡ Some r → cluster_role_at now other ≡ Some c
    → takes_from (labelled labels (name, r)) (labels other) ≡ true → HasAtom c.rules a → IsOwn acting start [] a ⊎ HasAtom r.rules a

-- a binding that counts in a namespace did at the start, or what its role has is within what was held then
abbrev pub BindingsStayWithin : List Identity → PolicyObjects → PolicyObjects → Type 0
BindingsStayWithin acting start now =
    (namespace : List ℕ) (b : Binding) → Has (bindings_in now namespace) b
    → Has (bindings_in start namespace) b
    ⊎ ((a : Atom) → RoleHas now b.role.kind b.role.name b.namespace a → IsOwn acting start b.namespace a)

-- everything that is stored is within what the acting identities held at the start, or was there then
pub record StaysWithin (acting : List Identity) (start now : PolicyObjects) (labels : Labels) : Type 0 where
  pub order : IsInOrder now
  pub roles : RolesStayWithin acting start now
  pub turns : TurnsStayWithin acting start now labels
  pub bindings : BindingsStayWithin acting start now
