-- What follows if all stays within what the acting identities held at the start.
use Rattle.std.proofs.Common.{◌≡◌, ◌⊎◌, inl, inr, ℕ, List, [], Bool, true, false, ◌||◌, refl}
use Rattle.std.specs.List.{list_any}
use Rattle.std.proofs.lemmas.Bool.{or_left, or_right}
use Rattle.kapi_model.specs.declared.kinds.RoleKind.{RoleKind}
use Rattle.kapi_model.specs.declared.kinds.RoleKind.TheVariants as role_kind
use Rattle.kapi_model.specs.declared.policy_rule.PolicyRule.{PolicyRule}
use Rattle.kapi_model.specs.declared.role_ref.RoleRef.{RoleRef}
use Rattle.kapi_model.specs.Identities.{is_master}
use Rattle.kapi_model.specs.declared.identity.Identity.{Identity}
use Rattle.kapi_rules.proofs.Covers.{implies_itself}
use Rattle.kapi_rules.specs.Atoms.{atom_allows, atoms, resource_atom}
use Rattle.kapi_rules.specs.Entries.{star}
use Rattle.kapi_rules.specs.Points.{HasPlainResource}
use Rattle.kapi_rules.specs.declared.atom.Atom.{Atom}
use Rattle.kapi_rules.specs.declared.atom.Names.TheVariants as some_names
use Rattle.kapi_rules.specs.declared.point.Point.{Point}
use Rattle.kapi_policy.specs.Decided.{bindings_in, held}
use Rattle.kapi_policy.specs.Objects.{PolicyObjects}
use Rattle.kapi_escalation.specs.Authority.{full_authority}
use Rattle.kapi_escalation.specs.Checks.{holds_all}
use Rattle.kapi_escalation.specs.Exempt.{binding, escalating}
use Rattle.kapi_escalation_laws.proofs.Atoms.{HeldBy, atom_from_may, held_from, is_held, master_may, may_by_atom, own_allows, own_below, own_in_scope, own_where_bound, wanted_is_implied}
use Rattle.kapi_aggregation.proofs.Lists.{some_at}
use Rattle.kapi_escalation_laws.specs.Access.{ActsAs, GivesNothing, IsUnprivileged, may}
use Rattle.kapi_aggregation.specs.Members.{Has}
use Rattle.kapi_escalation_laws.specs.States.{Labels}
use Rattle.kapi_escalation_laws.specs.Within.{ActorsHoldOwn, HasAtom, IsOwn, RoleHas, StaysWithin, scope_of}

module _ (acting : List Identity) (start objects : PolicyObjects) (labels : Labels) (facts : StaysWithin acting start objects labels) where
  -- ---- what is held

  -- what an identity holds is own, or the identity held it at the start
  pub held_before : (identity : Identity) (namespace : List ℕ) (a : Atom) → HasAtom (held objects identity namespace) a → IsOwn acting start namespace a ⊎ HasAtom (held start identity namespace) a
  held_before identity namespace a has = by_binding (facts.bindings namespace by.one by.counts)
    where
      by : HeldBy objects identity namespace a
      by = held_from objects identity namespace a has

      by_role : Has (bindings_in start namespace) by.one → IsOwn acting start (scope_of by.one.role.kind by.one.namespace) a ⊎ RoleHas start by.one.role.kind by.one.role.name by.one.namespace a
          → IsOwn acting start namespace a ⊎ HasAtom (held start identity namespace) a
      by_role was (inl own) = inl (own_where_bound acting start objects namespace by.one a by.counts (own_in_scope acting start by.one.role.kind by.one.namespace a own))
      by_role was (inr role) = inr (is_held start identity namespace a (record { one = by.one; counts = was; meant = by.meant; role = role }))

      by_binding : Has (bindings_in start namespace) by.one ⊎ ((a : Atom) → RoleHas objects by.one.role.kind by.one.role.name by.one.namespace a → IsOwn acting start by.one.namespace a)
          → IsOwn acting start namespace a ⊎ HasAtom (held start identity namespace) a
      by_binding (inl was) = by_role was (facts.roles by.one.role.kind by.one.role.name by.one.namespace a by.role)
      by_binding (inr within) = inl (own_where_bound acting start objects namespace by.one a by.counts (within a by.role))

  pub acting_hold_own : ActorsHoldOwn acting start objects
  acting_hold_own who namespace a acts has = by_case (held_before who namespace a has)
    where
      by_case : IsOwn acting start namespace a ⊎ HasAtom (held start who namespace) a → IsOwn acting start namespace a
      by_case (inl own) = own
      by_case (inr holds) = record { who = who; acts = acts; held_one = a; holds = holds; implied = implies_itself a }

  -- rules that an acting identity may write are own
  pub written_are_own : (who : Identity) (namespace : List ℕ) (rules : List PolicyRule) → Has acting who → holds_all (held objects who namespace) rules ≡ true
      → (a : Atom) → HasAtom rules a → IsOwn acting start namespace a
  written_are_own who namespace rules acts all a has =
      let one = wanted_is_implied (held objects who namespace) rules a all has in
      own_below acting start namespace one.0 a (acting_hold_own who namespace one.0 acts one.1.0) one.1.1

  -- ---- what is allowed

  some_may : (namespace : List ℕ) (p : Point) → (who : Identity) × (Has acting who × (may start who namespace p ≡ true)) → list_any (λ who. may start who namespace p) acting ≡ true
  some_may namespace p one = some_at (λ who. may start who namespace p) acting one.0 one.1.0 one.1.1

  pub gives_nothing : GivesNothing acting start objects
  gives_nothing identity namespace p plain allowed = by_case (atom_from_may objects identity namespace p allowed)
    where
      by_atom : (a : Atom) → atom_allows a p ≡ true → IsOwn acting start namespace a ⊎ HasAtom (held start identity namespace) a
          → (may start identity namespace p || list_any (λ who. may start who namespace p) acting) ≡ true
      by_atom a allows (inl own) = or_right (may start identity namespace p) _ (some_may namespace p (own_allows acting start namespace a p plain own allows))
      by_atom a allows (inr holds) = or_left (may start identity namespace p) _ (may_by_atom start identity namespace p a holds allows)

      by_case : (is_master identity ≡ true) ⊎ ((a : Atom) × (HasAtom (held objects identity namespace) a × (atom_allows a p ≡ true)))
          → (may start identity namespace p || list_any (λ who. may start who namespace p) acting) ≡ true
      by_case (inl master) = or_left (may start identity namespace p) _ (master_may start identity namespace p master)
      by_case (inr one) = by_atom one.0 one.1.1 (held_before identity namespace one.0 one.1.0)

  -- ---- what those who act may not do

  contradicts : (b : Bool) → b ≡ true → b ≡ false → ⊥
  contradicts true h k = absurd (cc k)
  contradicts false h k = absurd (cc h)

  -- what no acting identity might do at the start none of them may do now
  stays_denied : (who : Identity) (namespace : List ℕ) (p : Point) → HasPlainResource p → ((other : Identity) → Has acting other → may start other namespace p ≡ false) → Has acting who → may objects who namespace p ≡ true → ⊥
  stays_denied who namespace p plain denied acts allowed = by_case (atom_from_may objects who namespace p allowed)
    where
      by_case : (is_master who ≡ true) ⊎ ((a : Atom) × (HasAtom (held objects who namespace) a × (atom_allows a p ≡ true))) → ⊥
      by_case (inl master) = contradicts (may start who namespace p) (master_may start who namespace p master) (denied who acts)
      by_case (inr one) =
          let other = own_allows acting start namespace one.0 p plain (acting_hold_own who namespace one.0 acts one.1.0) one.1.1 in
          contradicts (may start other.0 namespace p) other.1.1 (denied other.0 other.1.0)

  module _ (unprivileged : (who : Identity) → Has acting who → IsUnprivileged start who) where
    pub no_escalation : (who : Identity) (namespace : List ℕ) (kind : RoleKind) (name : List ℕ) → Has acting who → may objects who namespace (escalating kind name) ≡ true → ⊥
    no_escalation who namespace role_kind.Role name acts allowed =
        stays_denied who namespace (escalating role_kind.Role name) refl (λ other there. (unprivileged other there).no_escalate namespace role_kind.Role name) acts allowed
    no_escalation who namespace role_kind.ClusterRole name acts allowed =
        stays_denied who namespace (escalating role_kind.ClusterRole name) refl (λ other there. (unprivileged other there).no_escalate namespace role_kind.ClusterRole name) acts allowed

    binding_is_plain : (kind : RoleKind) (name : List ℕ) → HasPlainResource (binding (record { kind = kind; name = name }))
    binding_is_plain role_kind.Role name = refl
    binding_is_plain role_kind.ClusterRole name = refl

    pub no_binding : (who : Identity) (namespace : List ℕ) (role : RoleRef) → Has acting who → may objects who namespace (binding role) ≡ true → ⊥
    no_binding who namespace role acts allowed =
        stays_denied who namespace (binding role) (binding_is_plain role.kind role.name) (λ other there. (unprivileged other there).no_bind namespace role) acts allowed

    -- no acting identity is taken for another
    pub acts_as_himself : (who other : Identity) → Has acting who → ActsAs objects who other → other ≡ who
    acts_as_himself who other acts (inl himself) = himself
    acts_as_himself who other acts (inr by) =
        absurd (stays_denied who by.namespace by.request by.plain (λ one there. (unprivileged one there).no_impersonate by.namespace by.request by.verb) acts by.allowed)

    -- all verbs on all resources
    abbrev everything : Atom
    everything = resource_atom star star star some_names.All

    in_authority : HasAtom full_authority everything
    unfolding atoms
    in_authority = inl refl

    -- no acting identity has full authority: with it the identity might escalate
    pub no_full_authority : (who : Identity) → Has acting who → holds_all (held objects who []) full_authority ≡ true → ⊥
    no_full_authority who acts all =
        let own : IsOwn acting start [] everything = written_are_own who [] full_authority acts all everything in_authority in
        let other = own_allows acting start [] everything (escalating role_kind.ClusterRole []) refl own refl in
        contradicts (may start other.0 [] (escalating role_kind.ClusterRole [])) other.1.1 ((unprivileged other.0 other.1.0).no_escalate [] role_kind.ClusterRole [])
