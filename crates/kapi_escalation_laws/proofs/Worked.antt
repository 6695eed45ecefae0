-- The worked policies.
use Rattle.std.proofs.Common.{◌≡◌, inl, inr, ℕ, List, [], ◌∷◌, ◌++◌, Bool, true, false, if◌then◌else◌, ◌==◌, length, map, refl, ◌∙◌, codes, ◌||◌}
use Rattle.std.specs.List.{flat_map}
use Rattle.std.specs.List.Sorted.{IsStrictlySortedBy}
use Rattle.std.specs.Option.{unwrap_or}
use Rattle.kapi_model.specs.declared.identity.Identity.{Identity}
use Rattle.kapi_rules.specs.Worked.{get_of, get_on}
use Rattle.kapi_rules.specs.Rules.{allows}
use Rattle.kapi_rules.specs.declared.point.Point.{Point}
use Rattle.kapi_rules.specs.declared.point.Point.TheVariants as point
use Rattle.kapi_aggregation.specs.Unions.{union_for}
use Rattle.kapi_policy.proofs.Decisions.{allowed_where_held}
use Rattle.kapi_policy.specs.Decided.{bindings_in, cluster_binding, decided, given, granted, granted_by, held, rules_of}
use Rattle.kapi_policy.specs.Laws.{IsInOrder}
use Rattle.kapi_policy.specs.Objects.{applied, with_object}
use Rattle.kapi_escalation.specs.Checks.{grant}
use Rattle.kapi_escalation.specs.Exempt.{binding, escalating}
use Rattle.kapi_escalation_laws.specs.Access.{GivesNothing, IsUnprivileged, may, verb_of}
use Rattle.kapi_aggregation.specs.Members.{Has}
use Rattle.kapi_escalation_laws.specs.States.{IsSettled}
use Rattle.kapi_escalation_laws.specs.Steps.{AreBy, IsGuarded, Runs}
use Rattle.kapi_escalation_laws.specs.Worked.{binder, binding_of_a, bound, eve, filled, taking_all, turn_of_b, unsettled}

-- ---- not settled

pub unsettled_in_order : IsInOrder unsettled.objects
unfolding IsStrictlySortedBy
unsettled_in_order = record { roles = tt; cluster_roles = ((refl, tt), (tt, tt)); role_bindings = tt; cluster_role_bindings = (tt, tt) }

-- Eve holds nothing
holds_none : (namespace : List ℕ) → held unsettled.objects eve namespace ≡ []
unfolding held bindings_in given rules_of
holds_none namespace = by_case (length namespace == 0)
  where
    by_case : (b : Bool) → flat_map (λ b. unwrap_or (given unsettled.objects eve b) []) (map cluster_binding unsettled.objects.cluster_role_bindings ++ (if b then [] else [])) ≡ []
    by_case true = refl
    by_case false = refl

may_nothing : (namespace : List ℕ) (p : Point) → may unsettled.objects eve namespace p ≡ false
may_nothing namespace p = allowed_where_held unsettled.objects eve namespace p ∙ rw (holds_none namespace) refl

eve_unprivileged : IsUnprivileged unsettled.objects eve
eve_unprivileged = record {
  no_master = refl;
  no_escalate = λ namespace kind name. may_nothing namespace _;
  no_bind = λ namespace role. may_nothing namespace _;
  no_impersonate = λ namespace p is. may_nothing namespace p;
}

pub unsettled_unprivileged : (who : Identity) → Has (eve ∷ []) who → IsUnprivileged unsettled.objects who
unsettled_unprivileged who (inl same) = rw (← same) eve_unprivileged
unsettled_unprivileged who (inr never) = absurd never

pub unsettled_runs : Runs unsettled turn_of_b filled
unfolding applied with_object union_for
unsettled_runs = (filled, (record { role = taking_all []; found = refl; objects = refl; labels = λ name. refl }, (refl, λ name. refl)))

pub unsettled_gains : GivesNothing (eve ∷ []) unsettled.objects filled.objects → ⊥
unfolding decided granted granted_by given bindings_in rules_of
unsettled_gains nothing = absurd (let never = nothing eve [] (get_of (codes "pods")) refl refl in cc never)

-- ---- not unprivileged

pub binder_in_order : IsInOrder binder.objects
unfolding IsStrictlySortedBy
binder_in_order = record { roles = tt; cluster_roles = ((refl, tt), (tt, tt)); role_bindings = tt; cluster_role_bindings = (tt, tt) }

pub binder_settled : IsSettled binder
binder_settled = ((λ aggregated. absurd (cc aggregated)), ((λ aggregated. absurd (cc aggregated)), tt))

pub binder_acts : AreBy (eve ∷ []) binding_of_a
binder_acts = (inl refl, tt)

pub binder_runs : Runs binder binding_of_a bound
unfolding applied with_object grant decided granted granted_by given bindings_in rules_of
binder_runs = (bound, (record { acts = inl refl; granted = refl; objects = refl; labels = λ name. refl }, (refl, λ name. refl)))

pub binder_gains : GivesNothing (eve ∷ []) binder.objects bound.objects → ⊥
unfolding decided granted granted_by given bindings_in rules_of
binder_gains nothing = absurd (let never = nothing eve [] (get_of (codes "pods")) refl refl in cc never)

-- ---- settled, with a unprivileged user

holds_one : (namespace : List ℕ) → held filled.objects eve namespace ≡ get_on (codes "pods") ∷ []
unfolding held bindings_in given rules_of
holds_one namespace = by_case (length namespace == 0)
  where
    by_case : (b : Bool) → flat_map (λ b. unwrap_or (given filled.objects eve b) []) (map cluster_binding filled.objects.cluster_role_bindings ++ (if b then [] else [])) ≡ get_on (codes "pods") ∷ []
    by_case true = refl
    by_case false = refl

may_by_one : (namespace : List ℕ) (p : Point) → may filled.objects eve namespace p ≡ (allows (get_on (codes "pods")) p || false)
may_by_one namespace p = allowed_where_held filled.objects eve namespace p ∙ rw (holds_one namespace) refl

other_verb : (p : Point) → verb_of p ≡ codes "impersonate" → (allows (get_on (codes "pods")) p || false) ≡ false
other_verb (point.Resource p) is = rw is refl
other_verb (point.Url p) is = rw is refl

still_unprivileged : IsUnprivileged filled.objects eve
still_unprivileged = record {
  no_master = refl;
  no_escalate = λ namespace kind name. may_by_one namespace (escalating kind name);
  no_bind = λ namespace role. may_by_one namespace (binding role);
  no_impersonate = λ namespace p is. may_by_one namespace p ∙ other_verb p is;
}

filled_unprivileged : (who : Identity) → Has (eve ∷ []) who → IsUnprivileged filled.objects who
filled_unprivileged who (inl same) = rw (← same) still_unprivileged
filled_unprivileged who (inr never) = absurd never

filled_settled : IsSettled filled
unfolding union_for
filled_settled = ((λ aggregated. absurd (cc aggregated)), ((λ aggregated. refl), tt))

filled_in_order : IsInOrder filled.objects
unfolding IsStrictlySortedBy
filled_in_order = record { roles = tt; cluster_roles = ((refl, tt), (tt, tt)); role_bindings = tt; cluster_role_bindings = (tt, tt) }

pub filled_guarded : IsGuarded (eve ∷ []) filled
filled_guarded = record { order = filled_in_order; settled = filled_settled; unprivileged = filled_unprivileged }

pub eve_may_get : may filled.objects eve [] (get_of (codes "pods")) ≡ true
unfolding decided granted granted_by given bindings_in rules_of
eve_may_get = refl
