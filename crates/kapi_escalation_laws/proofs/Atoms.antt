-- Atoms: what an identity holds by a binding, what that allows it, and what is its own.
use Rattle.std.proofs.Common.{◌≡◌, ◌⊎◌, inl, inr, ℕ, List, [], ◌++◌, Bool, true, false, if◌then◌else◌, ◌||◌, ◌==◌, length, map, Option, Some, None, refl, sym, ap, ◌∙◌}
use Rattle.std.proofs.lemmas.Grind.{flat_map-append}
use Rattle.std.specs.List.{filter, flat_map, list_any}
use Rattle.std.specs.Option.{unwrap_or}
use Rattle.std.proofs.lemmas.Bool.{or_right}
use Rattle.kapi_model.specs.declared.kinds.RoleKind.{RoleKind}
use Rattle.kapi_model.specs.declared.kinds.RoleKind.TheVariants as role_kind
use Rattle.kapi_model.specs.declared.policy_rule.PolicyRule.{PolicyRule}
use Rattle.kapi_model.specs.Identities.{is_master}
use Rattle.kapi_model.specs.Subjects.{subject_matches}
use Rattle.kapi_model.specs.declared.binding.RoleBinding.{RoleBinding}
use Rattle.kapi_model.specs.declared.identity.Identity.{Identity}
use Rattle.kapi_rules.proofs.Covers.{implies_allows, implies_onward, same}
use Rattle.kapi_rules.proofs.Parts.{allowed_by_atom, any_flat_map, any_same}
use Rattle.kapi_rules.specs.Atoms.{atom_allows, atoms, implies}
use Rattle.kapi_rules.specs.Points.{HasPlainResource}
use Rattle.kapi_rules.specs.Rules.{allows}
use Rattle.kapi_rules.specs.declared.atom.Atom.{Atom}
use Rattle.kapi_rules.specs.declared.point.Point.{Point}
use Rattle.kapi_policy.proofs.Decisions.{allowed_where_held, cluster_wide_first}
use Rattle.kapi_policy.specs.Decided.{Binding, bindings_in, bindings_of, cluster_binding, given, held, is_in, namespace_binding, rules_of, rules_of_kind}
use Rattle.kapi_policy.specs.Objects.{PolicyObjects}
use Rattle.kapi_policy.specs.declared.change.NamespacedName.{NamespacedName}
use Rattle.kapi_escalation.proofs.Implied.{none_is_missing}
use Rattle.kapi_escalation.specs.Checks.{holds_all}
use Rattle.kapi_aggregation.proofs.Lists.{kept_of, mapped_of, some_at}
use Rattle.kapi_escalation_laws.proofs.Elements.{each_passes, has_either, has_left, has_part, part_of, passing}
use Rattle.kapi_escalation_laws.specs.Access.{may}
use Rattle.kapi_aggregation.specs.Members.{Has}
use Rattle.kapi_escalation_laws.specs.Within.{HasAtom, IsOwn, RoleHas, scope_of}

-- ---- what a binding gives

-- one of the subjects of the binding matches the identity
abbrev pub matches : Identity → Binding → Bool
matches identity b = list_any (λ s. subject_matches s b.namespace identity) b.subjects

-- a binding that counts, matches the identity, and whose role has the atom
pub record HeldBy (objects : PolicyObjects) (identity : Identity) (namespace : List ℕ) (a : Atom) : Type 0 where
  pub one : Binding
  pub counts : Has (bindings_in objects namespace) one
  pub meant : matches identity one ≡ true
  pub role : RoleHas objects one.role.kind one.role.name one.namespace a

given_from : (objects : PolicyObjects) (identity : Identity) (b : Binding) (rule : PolicyRule) (a : Atom) → Has (unwrap_or (given objects identity b) []) rule → Has (atoms rule) a
    → (matches identity b ≡ true) × RoleHas objects b.role.kind b.role.name b.namespace a
unfolding given rules_of
given_from objects identity b rule a has part = by_meant (matches identity b) refl has
  where
    by_role : (o : Option (List PolicyRule)) → rules_of_kind objects b.role.kind b.role.name b.namespace ≡ o → Has (unwrap_or o []) rule → RoleHas objects b.role.kind b.role.name b.namespace a
    by_role None is never = absurd never
    by_role (Some rules) is there = record { rules = rules; found = is; has = has_part atoms rules rule a there part }

    by_meant : (m : Bool) → matches identity b ≡ m → Has (unwrap_or (if m then rules_of_kind objects b.role.kind b.role.name b.namespace else None) []) rule
        → (matches identity b ≡ true) × RoleHas objects b.role.kind b.role.name b.namespace a
    by_meant true is there = (is, by_role (rules_of_kind objects b.role.kind b.role.name b.namespace) refl there)
    by_meant false is never = absurd never

-- an atom that is held is so by a binding
pub held_from : (objects : PolicyObjects) (identity : Identity) (namespace : List ℕ) (a : Atom) → HasAtom (held objects identity namespace) a → HeldBy objects identity namespace a
unfolding held
held_from objects identity namespace a has =
    let rule = part_of atoms (flat_map (λ b. unwrap_or (given objects identity b) []) (bindings_in objects namespace)) a has in
    let b = part_of (λ b. unwrap_or (given objects identity b) []) (bindings_in objects namespace) rule.0 rule.1.0 in
    let by = given_from objects identity b.0 rule.0 a b.1.1 rule.1.1 in
    record { one = b.0; counts = b.1.0; meant = by.0; role = by.1 }

given_is : (objects : PolicyObjects) (identity : Identity) (b : Binding) (rules : List PolicyRule) → matches identity b ≡ true → rules_of_kind objects b.role.kind b.role.name b.namespace ≡ Some rules
    → unwrap_or (given objects identity b) [] ≡ rules
unfolding given rules_of
given_is objects identity b rules meant found = rw (meant, found) refl

-- what a binding with the atom grants is held
pub is_held : (objects : PolicyObjects) (identity : Identity) (namespace : List ℕ) (a : Atom) → HeldBy objects identity namespace a → HasAtom (held objects identity namespace) a
unfolding held
is_held objects identity namespace a by =
    let rule = part_of atoms by.role.rules a by.role.has in
    has_part atoms (flat_map (λ b. unwrap_or (given objects identity b) []) (bindings_in objects namespace)) rule.0 a
    (has_part (λ b. unwrap_or (given objects identity b) []) (bindings_in objects namespace) by.one rule.0 by.counts
    (rw (given_is objects identity by.one by.role.rules by.meant by.role.found) rule.1.0)) rule.1.1

-- a binding that counts in a namespace is of the namespace itself or of none
pub where_bound : (objects : PolicyObjects) (namespace : List ℕ) (b : Binding) → Has (bindings_in objects namespace) b → (b.namespace ≡ []) ⊎ (b.namespace ≡ namespace)
unfolding bindings_in
where_bound objects namespace b has = by_kind (has_either (map cluster_binding objects.cluster_role_bindings) (if length namespace == 0 then [] else bindings_of namespace objects.role_bindings) b has)
  where
    in_namespace : (c : Bool) → Has (if c then [] else bindings_of namespace objects.role_bindings) b → b.namespace ≡ namespace
    in_namespace true never = absurd never
    in_namespace false there =
        let entry = mapped_of namespace_binding (filter (λ entry. is_in namespace entry.0) objects.role_bindings) b there in
        let kept = kept_of (λ (entry : NamespacedName × RoleBinding). is_in namespace entry.0) objects.role_bindings entry.0 entry.1.0 in
        sym (ap (λ (b : Binding). b.namespace) entry.1.1) ∙ same entry.0.0.namespace namespace kept.1

    by_kind : Has (map cluster_binding objects.cluster_role_bindings) b ⊎ Has (if length namespace == 0 then [] else bindings_of namespace objects.role_bindings) b → (b.namespace ≡ []) ⊎ (b.namespace ≡ namespace)
    by_kind (inl wide) = let entry = mapped_of cluster_binding objects.cluster_role_bindings b wide in inl (sym (ap (λ (b : Binding). b.namespace) entry.1.1))
    by_kind (inr there) = inr (in_namespace (length namespace == 0) there)

-- ---- what atoms allow

rules_by_atoms : (rules : List PolicyRule) (p : Point) → list_any (λ a. atom_allows a p) (flat_map atoms rules) ≡ list_any (λ rule. allows rule p) rules
rules_by_atoms rules p = any_flat_map (λ a. atom_allows a p) atoms rules ∙ any_same _ _ rules (λ rule. allowed_by_atom rule p)

pub may_by_atom : (objects : PolicyObjects) (identity : Identity) (namespace : List ℕ) (p : Point) (a : Atom) → HasAtom (held objects identity namespace) a → atom_allows a p ≡ true
    → may objects identity namespace p ≡ true
may_by_atom objects identity namespace p a has allowed =
    allowed_where_held objects identity namespace p
    ∙ or_right (is_master identity) _ (sym (rules_by_atoms (held objects identity namespace) p) ∙ some_at (λ a. atom_allows a p) (flat_map atoms (held objects identity namespace)) a has allowed)

pub master_may : (objects : PolicyObjects) (identity : Identity) (namespace : List ℕ) (p : Point) → is_master identity ≡ true → may objects identity namespace p ≡ true
master_may objects identity namespace p is = allowed_where_held objects identity namespace p ∙ rw is refl

-- what is allowed is so to a master or by an atom
pub atom_from_may : (objects : PolicyObjects) (identity : Identity) (namespace : List ℕ) (p : Point) → may objects identity namespace p ≡ true
    → (is_master identity ≡ true) ⊎ ((a : Atom) × (HasAtom (held objects identity namespace) a × (atom_allows a p ≡ true)))
atom_from_may objects identity namespace p allowed = by_case (is_master identity) refl (sym (allowed_where_held objects identity namespace p) ∙ allowed)
  where
    by_case : (m : Bool) → is_master identity ≡ m → (m || list_any (λ rule. allows rule p) (held objects identity namespace)) ≡ true
        → (is_master identity ≡ true) ⊎ ((a : Atom) × (HasAtom (held objects identity namespace) a × (atom_allows a p ≡ true)))
    by_case true is h = inl is
    by_case false is h = inr (passing (λ a. atom_allows a p) (flat_map atoms (held objects identity namespace)) (rules_by_atoms (held objects identity namespace) p ∙ h))

-- whoever holds all of the rules holds, for each of their atoms, an atom that implies it
pub wanted_is_implied : (own rules : List PolicyRule) (a : Atom) → holds_all own rules ≡ true → HasAtom rules a → (h : Atom) × (HasAtom own h × (implies h a ≡ true))
wanted_is_implied own rules a all has =
    passing (λ h. implies h a) (flat_map atoms own)
    (each_passes (λ a. list_any (λ h. implies h a) (flat_map atoms own)) (flat_map atoms rules) a (sym (none_is_missing own rules) ∙ all) has)

-- ---- what is own

module _ (acting : List Identity) (start : PolicyObjects) where
  pub own_below : (namespace : List ℕ) (a b : Atom) → IsOwn acting start namespace a → implies a b ≡ true → IsOwn acting start namespace b
  own_below namespace a b own below =
      record { who = own.who; acts = own.acts; held_one = own.held_one; holds = own.holds; implied = implies_onward own.held_one a b own.implied below }

  pub own_widens : (namespace : List ℕ) (a : Atom) → IsOwn acting start [] a → IsOwn acting start namespace a
  own_widens namespace a own =
      let wide = cluster_wide_first start own.who namespace in
      let there : HasAtom (held start own.who [] ++ wide.0) own.held_one =
      rw (flat_map-append atoms (held start own.who []) wide.0) (has_left (flat_map atoms (held start own.who [])) (flat_map atoms wide.0) own.held_one own.holds) in
      record { who = own.who; acts = own.acts; held_one = own.held_one; holds = rw wide.1 there; implied = own.implied }

  pub own_in_scope : (kind : RoleKind) (namespace : List ℕ) (a : Atom) → IsOwn acting start (scope_of kind namespace) a → IsOwn acting start namespace a
  own_in_scope role_kind.Role namespace a own = own
  own_in_scope role_kind.ClusterRole namespace a own = own_widens namespace a own

  pub own_where_bound : (objects : PolicyObjects) (namespace : List ℕ) (b : Binding) (a : Atom) → Has (bindings_in objects namespace) b → IsOwn acting start b.namespace a → IsOwn acting start namespace a
  own_where_bound objects namespace b a counts own = by_case (where_bound objects namespace b counts)
    where
      by_case : (b.namespace ≡ []) ⊎ (b.namespace ≡ namespace) → IsOwn acting start namespace a
      by_case (inl none) = own_widens namespace a (rw (← none) own)
      by_case (inr here) = rw (← here) own

  -- what an own atom allows was allowed at the start to an acting identity
  pub own_allows : (namespace : List ℕ) (a : Atom) (p : Point) → HasPlainResource p → IsOwn acting start namespace a → atom_allows a p ≡ true
      → (who : Identity) × (Has acting who × (may start who namespace p ≡ true))
  own_allows namespace a p plain own allowed =
      (own.who, (own.acts, may_by_atom start own.who namespace p own.held_one own.holds (implies_allows own.held_one a p plain own.implied allowed)))
