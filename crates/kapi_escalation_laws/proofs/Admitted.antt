-- What one step may change while all stays within what the acting identities held at the start.
use Rattle.std.proofs.Common.{◌≡◌, ◌⊎◌, inl, inr, ℕ, List, [], Bool, true, false, Option, Some, None, refl, sym, ap}
use Rattle.std.specs.List.{list_any}
use Rattle.std.specs.Option.{is_some}
use Rattle.std.specs.Str.{bytes_eq}
use Rattle.serde_json.specs.Data.{Data}
use Rattle.kapi_model.specs.Selector.{matches}
use Rattle.kapi_model.specs.declared.aggregation_rule.AggregationRule.{AggregationRule}
use Rattle.kapi_model.specs.declared.kinds.RoleKind.{RoleKind}
use Rattle.kapi_model.specs.declared.kinds.RoleKind.TheVariants as role_kind
use Rattle.kapi_model.specs.declared.policy_rule.PolicyRule.{PolicyRule}
use Rattle.kapi_model.specs.declared.identity.Identity.{Identity}
use Rattle.kapi_model.specs.declared.role.ClusterRole.{ClusterRole}
use Rattle.kapi_rules.proofs.Covers.{same}
use Rattle.kapi_rules.specs.declared.atom.Atom.{Atom}
use Rattle.kapi_aggregation.specs.Roles.{selectors_in, takes_from}
use Rattle.kapi_aggregation.specs.Unions.{union_for}
use Rattle.kapi_policy.specs.Decided.{Binding, bindings_in, cluster_rules_in}
use Rattle.kapi_policy.specs.Laws.{IsInOrder}
use Rattle.kapi_policy.specs.Objects.{PolicyObjects}
use Rattle.kapi_escalation_laws.proofs.Atoms.{own_in_scope}
use Rattle.kapi_escalation_laws.proofs.Unions.{Source, union_from, union_has}
use Rattle.kapi_aggregation.specs.Members.{Has}
use Rattle.kapi_escalation_laws.specs.States.{Labels, cluster_role_at, labelled, labelled_roles, turned}
use Rattle.kapi_escalation_laws.specs.Within.{HasAtom, IsOwn, RoleHas, StaysWithin, scope_of}

module _ (acting : List Identity) (start : PolicyObjects) where
  -- a cluster role is as it was, or is written with what acting identities held, or has its union in place of its rules
  pub data ClusterRoleChange (old : PolicyObjects) (before now : Labels) (name : List ℕ) (r : ClusterRole) : Type 0 where
    stands : cluster_role_at old name ≡ Some r → now name ≡ before name → ClusterRoleChange old before now name r
    written : ((a : Atom) → HasAtom r.rules a → IsOwn acting start [] a) → is_some r.aggregation_rule ≡ false → ClusterRoleChange old before now name r
    given_union : (was : ClusterRole) → cluster_role_at old name ≡ Some was → now name ≡ before name → r ≡ turned old before name was → ClusterRoleChange old before now name r

  -- all that is new is within what the acting identities held at the start
  pub record IsAdmitted (old : PolicyObjects) (before : Labels) (new : PolicyObjects) (now : Labels) : Type 0 where
    pub order : IsInOrder new
    pub roles : (name namespace : List ℕ) (a : Atom) → RoleHas new role_kind.Role name namespace a → IsOwn acting start namespace a ⊎ RoleHas old role_kind.Role name namespace a
    pub cluster_roles : (name : List ℕ) (r : ClusterRole) → cluster_role_at new name ≡ Some r → ClusterRoleChange old before now name r
    pub bindings : (namespace : List ℕ) (b : Binding) → Has (bindings_in new namespace) b
        → Has (bindings_in old namespace) b ⊎ ((a : Atom) → RoleHas old b.role.kind b.role.name b.namespace a → IsOwn acting start b.namespace a)

-- the cluster role that has the rules
at_name : (o : Option ClusterRole) (rules : List PolicyRule) → cluster_rules_in o ≡ Some rules → (r : ClusterRole) × ((o ≡ Some r) × (r.rules ≡ rules))
at_name None rules h = absurd (cc h)
at_name (Some r) rules h = (r, (refl, cc h))

pub has_by_rules : (rules others : List PolicyRule) (a : Atom) → others ≡ rules → HasAtom rules a → HasAtom others a
has_by_rules rules others a e has = rw e has

-- a cluster role that is not aggregated takes nothing
pub takes_nothing : (rule : Option AggregationRule) (labels : Option Data) → is_some rule ≡ false → list_any (λ s. matches s labels) (selectors_in rule) ≡ true → ⊥
takes_nothing None labels is h = absurd (cc h)
takes_nothing (Some rule) labels is h = absurd (cc is)

module _ (acting : List Identity) (start old : PolicyObjects) (before : Labels) (facts : StaysWithin acting start old before) (new : PolicyObjects) (now : Labels) (admitted : IsAdmitted acting start old before new now) where
  -- what a cluster role has is own, or it had it, with the labels that it has
  record Had (name : List ℕ) (a : Atom) : Type 0 where
    pub was : ClusterRole
    pub found : cluster_role_at old name ≡ Some was
    pub kept : now name ≡ before name
    pub has : HasAtom was.rules a

  had_or_own : (name : List ℕ) (r : ClusterRole) (a : Atom) → ClusterRoleChange acting start old before now name r → HasAtom r.rules a → IsOwn acting start [] a ⊎ Had name a
  had_or_own name r a (ClusterRoleChange.stands found kept) has = inr (record { was = r; found = found; kept = kept; has = has })
  had_or_own name r a (ClusterRoleChange.written own plain) has = inl (own a has)
  had_or_own name r a (ClusterRoleChange.given_union was found kept is) has = by_case (facts.turns name source.other was source.role a found source.found source.taken source.has)
    where
      source : Source old before name was a
      source = union_from old before name was a facts.order (has_by_rules r.rules (union_for (labelled_roles old before) (labelled before (name, was))) a (sym (ap (λ (c : ClusterRole). c.rules) is)) has)

      by_case : IsOwn acting start [] a ⊎ HasAtom was.rules a → IsOwn acting start [] a ⊎ Had name a
      by_case (inl own) = inl own
      by_case (inr there) = inr (record { was = was; found = found; kept = kept; has = there })

  -- what a role has is own, or it had it
  pub never_grows : (kind : RoleKind) (name namespace : List ℕ) (a : Atom) → RoleHas new kind name namespace a → IsOwn acting start (scope_of kind namespace) a ⊎ RoleHas old kind name namespace a
  never_grows role_kind.Role name namespace a role = admitted.roles name namespace a role
  never_grows role_kind.ClusterRole name namespace a role = by_case (had_or_own name r.0 a (admitted.cluster_roles name r.0 r.1.0) (has_by_rules role.rules r.0.rules a r.1.1 role.has))
    where
      r : (r : ClusterRole) × ((cluster_role_at new name ≡ Some r) × (r.rules ≡ role.rules))
      r = at_name (cluster_role_at new name) role.rules role.found

      by_case : IsOwn acting start [] a ⊎ Had name a → IsOwn acting start [] a ⊎ RoleHas old role_kind.ClusterRole name namespace a
      by_case (inl own) = inl own
      by_case (inr had) = inr (record { rules = had.was.rules; found = ap cluster_rules_in had.found; has = had.has })

  roles_kept : (kind : RoleKind) (name namespace : List ℕ) (a : Atom) → RoleHas new kind name namespace a → IsOwn acting start (scope_of kind namespace) a ⊎ RoleHas start kind name namespace a
  roles_kept kind name namespace a role = by_case (never_grows kind name namespace a role)
    where
      by_case : IsOwn acting start (scope_of kind namespace) a ⊎ RoleHas old kind name namespace a → IsOwn acting start (scope_of kind namespace) a ⊎ RoleHas start kind name namespace a
      by_case (inl own) = inl own
      by_case (inr had) = facts.roles kind name namespace a had

  bindings_kept : (namespace : List ℕ) (b : Binding) → Has (bindings_in new namespace) b
      → Has (bindings_in start namespace) b ⊎ ((a : Atom) → RoleHas new b.role.kind b.role.name b.namespace a → IsOwn acting start b.namespace a)
  bindings_kept namespace b counts = by_admitted (admitted.bindings namespace b counts)
    where
      stays : ((a : Atom) → RoleHas old b.role.kind b.role.name b.namespace a → IsOwn acting start b.namespace a) → (a : Atom) → RoleHas new b.role.kind b.role.name b.namespace a → IsOwn acting start b.namespace a
      stays within a role = by_case (never_grows b.role.kind b.role.name b.namespace a role)
        where
          by_case : IsOwn acting start (scope_of b.role.kind b.namespace) a ⊎ RoleHas old b.role.kind b.role.name b.namespace a → IsOwn acting start b.namespace a
          by_case (inl own) = own_in_scope acting start b.role.kind b.namespace a own
          by_case (inr had) = within a had

      by_fact : Has (bindings_in start namespace) b ⊎ ((a : Atom) → RoleHas old b.role.kind b.role.name b.namespace a → IsOwn acting start b.namespace a)
          → Has (bindings_in start namespace) b ⊎ ((a : Atom) → RoleHas new b.role.kind b.role.name b.namespace a → IsOwn acting start b.namespace a)
      by_fact (inl was) = inl was
      by_fact (inr within) = inr (stays within)

      by_admitted : Has (bindings_in old namespace) b ⊎ ((a : Atom) → RoleHas old b.role.kind b.role.name b.namespace a → IsOwn acting start b.namespace a)
          → Has (bindings_in start namespace) b ⊎ ((a : Atom) → RoleHas new b.role.kind b.role.name b.namespace a → IsOwn acting start b.namespace a)
      by_admitted (inl was) = by_fact (facts.bindings namespace b was)
      by_admitted (inr within) = inr (stays within)

  same_role : (o : Option ClusterRole) (r c : ClusterRole) → o ≡ Some r → o ≡ Some c → c ≡ r
  same_role o r c h k = cc (h, k)

  -- the labels that are matched are the old ones
  taken_before : (rule : Option AggregationRule) (one other : Option Data) → one ≡ other → list_any (λ s. matches s one) (selectors_in rule) ≡ true → list_any (λ s. matches s other) (selectors_in rule) ≡ true
  taken_before rule one other e h = rw (← e) h

  rule_of_turned : (rule own : Option AggregationRule) (labels : Option Data) → own ≡ rule → list_any (λ s. matches s labels) (selectors_in own) ≡ true → list_any (λ s. matches s labels) (selectors_in rule) ≡ true
  rule_of_turned rule own labels e h = rw (← e) h

  turns_kept : (name other : List ℕ) (r c : ClusterRole) (a : Atom) → cluster_role_at new name ≡ Some r → cluster_role_at new other ≡ Some c
      → takes_from (labelled now (name, r)) (now other) ≡ true → HasAtom c.rules a → IsOwn acting start [] a ⊎ HasAtom r.rules a
  turns_kept name other r c a at_r at_c taken has = by_source (had_or_own other c a (admitted.cluster_roles other c at_c) has)
    where
      -- the role that takes was turned: its rules are the union, which has what it takes
      by_name : (had : Had other a) (was : ClusterRole) → cluster_role_at old name ≡ Some was → r ≡ turned old before name was → (b : Bool) → bytes_eq other name ≡ b → HasAtom r.rules a
      by_name had was found is true itself =
          let named : other ≡ name = same other name itself in
          let one : c ≡ r = same_role (cluster_role_at new name) r c at_r (rw (← named) at_c) in
          has_by_rules c.rules r.rules a (sym (ap (λ (c : ClusterRole). c.rules) one)) has
      by_name had was found is false apart =
          has_by_rules (union_for (labelled_roles old before) (labelled before (name, was))) r.rules a (ap (λ (c : ClusterRole). c.rules) is)
          (union_has old before name other was had.was a had.found apart
          (rule_of_turned was.aggregation_rule r.aggregation_rule (before other) (ap (λ (c : ClusterRole). c.aggregation_rule) is) (taken_before r.aggregation_rule (now other) (before other) had.kept taken)) had.has)

      by_taker : Had other a → ClusterRoleChange acting start old before now name r → IsOwn acting start [] a ⊎ HasAtom r.rules a
      by_taker had (ClusterRoleChange.stands found kept) =
          facts.turns name other r had.was a found had.found (taken_before r.aggregation_rule (now other) (before other) had.kept taken) had.has
      by_taker had (ClusterRoleChange.written own plain) = absurd (takes_nothing r.aggregation_rule (now other) plain taken)
      by_taker had (ClusterRoleChange.given_union was found kept is) = inr (by_name had was found is (bytes_eq other name) refl)

      by_source : IsOwn acting start [] a ⊎ Had other a → IsOwn acting start [] a ⊎ HasAtom r.rules a
      by_source (inl own) = inl own
      by_source (inr had) = by_taker had (admitted.cluster_roles name r at_r)

  -- what is admitted keeps all within
  pub facts_kept : StaysWithin acting start new now
  facts_kept = record { order = admitted.order; roles = roles_kept; turns = turns_kept; bindings = bindings_kept }
