-- The checks in their order, and the grant.
use Rattle.std.proofs.Common.{◌≡◌, ℕ, Bool, true, false, not, ◌&&◌, ◌||◌, if◌then◌else◌, List, [], ◌++◌, Option, Some, None, Result, Ok, Err, refl, sym, ap, ◌∙◌}
use Rattle.std.specs.List.{flat_map}
use Rattle.std.specs.Option.{is_some}
use Rattle.std.specs.Prelude.{OnOk}
use Rattle.std.specs.Result.{is_ok}
use Rattle.std.proofs.lemmas.Bool.{and_parts, and_from}
use Rattle.kapi_text.proofs.Booleans.{filter_same}
use Rattle.kapi_text.specs.ResultIs.{ResultIs, ◌>>=◌}
use Rattle.kapi_model.specs.declared.kinds.RoleKind.{RoleKind}
use Rattle.kapi_model.specs.declared.kinds.RoleKind.TheVariants as role_kind
use Rattle.kapi_model.specs.Identities.{is_master}
use Rattle.kapi_model.specs.declared.identity.Identity.{Identity}
use Rattle.kapi_model.specs.declared.policy_rule.PolicyRule.{PolicyRule}
use Rattle.kapi_model.specs.declared.aggregation_rule.AggregationRule.{AggregationRule}
use Rattle.kapi_model.specs.declared.role.ClusterRole.{ClusterRole}
use Rattle.kapi_model.specs.declared.role_ref.RoleRef.{RoleRef}
use Rattle.kapi_rules.proofs.Covers.{itself}
use Rattle.kapi_rules.specs.Atoms.{atoms}
use Rattle.kapi_rules.specs.Missing.{each_once, is_missing, missing, rule_implies}
use Rattle.kapi_policy.specs.Decided.{held}
use Rattle.kapi_policy.specs.Laws.{AreSameRules}
use Rattle.kapi_policy.specs.Objects.{PolicyObjects}
use Rattle.kapi_policy.proofs.Decisions.{allowed_where_held, cluster_wide_first}
use Rattle.kapi_policy.specs.declared.change.NamespacedName.{NamespacedName}
use Rattle.kapi_policy.specs.declared.change.PolicyPut.{PolicyPut}
use Rattle.kapi_policy.specs.declared.change.PolicyPut.TheVariants as put
use Rattle.kapi_escalation.proofs.Implied.{implied_by_more, implied_in_parts, implied_onward, none_is_missing}
use Rattle.kapi_escalation.specs.Authority.{full_authority}
use Rattle.kapi_escalation.specs.Checks.{Fault, IsWithin, PassesIff, all_held, checked, fault_of, grant, holds_all, holds_authority, holds_found, implies_each, lacks, lacks_authority, role_kept, role_not_found, role_ref_changed, rules_held}
use Rattle.kapi_escalation.specs.Exempt.{exemption, is_exempt}
use Rattle.kapi_escalation.specs.Laws.{cluster_role_with, created, role_with, unchanged, write_of}
use Rattle.kapi_escalation.specs.Writes.{is_aggregated, is_same_kind, is_same_role, keeps_role, scope, wanted}
use Rattle.kapi_escalation.specs.declared.refused.Refused.{Refused}
use Rattle.kapi_escalation.specs.declared.refused.Refused.TheVariants as refused
use Rattle.kapi_escalation.specs.declared.write.PolicyWrite.{PolicyWrite}
use Rattle.kapi_escalation.specs.declared.write.WrittenObject.{WrittenObject}

-- ---- the first fault, or none

abbrev step : Bool → Fault → Result (Unit {0}) Fault
step passes fault = if passes then Ok tt else Err fault

in_order : (k e h a : Bool) (first second third : Fault)
    → is_ok (step k first >>= λ u. (if e then Ok tt else (step h second >>= λ v. step a third))) ≡ (k && (e || (h && a)))
in_order false e h a first second third = refl
in_order true true h a first second third = refl
in_order true false false a first second third = refl
in_order true false true false first second third = refl
in_order true false true true first second third = refl

without_role : (k e : Bool) (first second : Fault) → is_ok (step k first >>= λ u. step e second) ≡ (k && (e || false))
without_role false e first second = refl
without_role true false first second = refl
without_role true true first second = refl

by_role : (objects : PolicyObjects) (identity : Identity) (o : WrittenObject) (k e : Bool) (found : Option (List PolicyRule))
    → is_ok (step k role_ref_changed >>= λ u. (if e then Ok tt else rules_held objects identity o found))
    ≡ (k && (e || (holds_found (held objects identity (scope o)) found && holds_authority (held objects identity (scope o)) o)))
unfolding rules_held all_held
by_role objects identity o k e None = without_role k e role_ref_changed role_not_found
by_role objects identity o k e (Some rules) =
    in_order k e (holds_all (held objects identity (scope o)) rules) (holds_authority (held objects identity (scope o)) o) role_ref_changed
    (lacks (missing (held objects identity (scope o)) rules)) (lacks_authority (missing (held objects identity (scope o)) full_authority))

pub passes_where_granted : (objects : PolicyObjects) (identity : Identity) (w : PolicyWrite)
    → is_ok (checked objects identity w) ≡ (keeps_role w.object && grant objects identity w)
unfolding checked grant
passes_where_granted objects identity w = by_role objects identity w.object (keeps_role w.object) (is_exempt objects identity w) (wanted objects w.object)

-- what the checks pass is granted
pub granted_where_checked : (objects : PolicyObjects) (identity : Identity) (w : PolicyWrite) → checked objects identity w ≡ Ok tt → grant objects identity w ≡ true
granted_where_checked objects identity w passes =
    (and_parts (keeps_role w.object) (grant objects identity w) (sym (passes_where_granted objects identity w) ∙ ap is_ok passes)).1

-- ---- the same rules

same_missing : (own others rules : List PolicyRule) → AreSameRules own others → missing own rules ≡ missing others rules
unfolding missing
same_missing own others rules same =
    ap each_once (filter_same (is_missing own) (is_missing others) (λ wanted. ap not (same (λ rule. rule_implies rule wanted))) (flat_map atoms rules))

-- who holds the same rules lacks the same
pub same_held : (own others rules : List PolicyRule) (o : WrittenObject) → AreSameRules own others → all_held own o rules ≡ all_held others o rules
unfolding all_held
same_held own others rules o same = rw (same_missing own others rules same, same_missing own others full_authority same) refl

-- ---- what an answer tells

pub told : (result : Result (Unit {0}) Refused) (given : Result (Unit {0}) Fault) (so : Bool) → is_ok given ≡ so → ResultIs fault_of (λ u. u) result given → PassesIff result so
told (Ok u) given so is gives = sym is ∙ ap is_ok gives
told (Err refused.Memory) given so is gives = tt
told (Err (refused.Missing list)) given so is gives = sym is ∙ ap is_ok gives
told (Err (refused.NeedsFullAuthority list)) given so is gives = sym is ∙ ap is_ok gives
told (Err refused.RoleNotFound) given so is gives = sym is ∙ ap is_ok gives
told (Err refused.RoleRefChanged) given so is gives = sym is ∙ ap is_ok gives

pub stays_within : (objects : PolicyObjects) (identity : Identity) (w : PolicyWrite)
    → (keeps_role w.object && grant objects identity w) ≡ true → is_exempt objects identity w ≡ false → IsWithin objects identity w.object
unfolding grant
stays_within objects identity w granted bound = by_found (wanted objects w.object) refl
  where
    own : List PolicyRule
    own = held objects identity (scope w.object)

    both_held : holds_found own (wanted objects w.object) ≡ true × (holds_authority own w.object ≡ true)
    both_held = and_parts _ _ (rw bound at (and_parts (keeps_role w.object) (grant objects identity w) granted).1)

    authority : is_aggregated w.object ≡ true → implies_each own full_authority ≡ true
    authority aggregated = sym (none_is_missing own full_authority) ∙ (rw aggregated at both_held.1)

    by_found : (o : Option (List PolicyRule)) → wanted objects w.object ≡ o → IsWithin objects identity w.object
    by_found None is = absurd (let never = rw is at both_held.0 in cc)
    by_found (Some rules) is =
        record { rules = rules; found = is; implied = sym (none_is_missing own rules) ∙ (rw is at both_held.0); authority = authority }

pub within_if_ok : (objects : PolicyObjects) (identity : Identity) (w : PolicyWrite) (result : Result (Unit {0}) Refused)
    → ResultIs fault_of (λ u. u) result (checked objects identity w)
    → OnOk result (is_exempt objects identity w ≡ false → IsWithin objects identity w.object)
within_if_ok objects identity w (Ok u) gives = stays_within objects identity w (sym (passes_where_granted objects identity w) ∙ ap is_ok gives)
within_if_ok objects identity w (Err e) gives = tt

-- ---- laws

pub any_part : (own before part after : List PolicyRule) → holds_all own (before ++ (part ++ after)) ≡ true → holds_all own part ≡ true
any_part own before part after all =
    none_is_missing own part ∙ implied_in_parts own before part after (sym (none_is_missing own (before ++ (part ++ after))) ∙ all)

pub all_implied : (own rules less : List PolicyRule) → implies_each rules less ≡ true → holds_all own rules ≡ true → holds_all own less ≡ true
all_implied own rules less down all = none_is_missing own less ∙ implied_onward own rules less down (sym (none_is_missing own rules) ∙ all)

less_is_granted : (e h k a : Bool) → (h ≡ true → k ≡ true) → (e || (h && a)) ≡ true → (e || (k && a)) ≡ true
less_is_granted true h k a less granted = refl
less_is_granted false h k a less granted = let parts = and_parts h a granted in and_from k a (less parts.0) parts.1

pub less_of_roles : (objects : PolicyObjects) (identity : Identity) (request_name : List ℕ) (place : NamespacedName) (rules less : List PolicyRule)
    → implies_each rules less ≡ true → grant objects identity (write_of request_name (role_with place rules)) ≡ true
    → grant objects identity (write_of request_name (role_with place less)) ≡ true
unfolding grant
less_of_roles objects identity request_name place rules less down granted =
    less_is_granted (is_exempt objects identity (write_of request_name (role_with place rules))) (holds_all (held objects identity place.namespace) rules)
    (holds_all (held objects identity place.namespace) less) true (all_implied (held objects identity place.namespace) rules less down) granted

pub less_of_cluster_roles : (objects : PolicyObjects) (identity : Identity) (request_name name : List ℕ) (old : Option ClusterRole) (aggregated : Option AggregationRule) (rules less : List PolicyRule)
    → implies_each rules less ≡ true → grant objects identity (write_of request_name (cluster_role_with name old aggregated rules)) ≡ true
    → grant objects identity (write_of request_name (cluster_role_with name old aggregated less)) ≡ true
unfolding grant
less_of_cluster_roles objects identity request_name name old aggregated rules less down granted =
    less_is_granted (is_exempt objects identity (write_of request_name (cluster_role_with name old aggregated rules))) (holds_all (held objects identity []) rules)
    (holds_all (held objects identity []) less) (holds_authority (held objects identity []) (cluster_role_with name old aggregated rules))
    (all_implied (held objects identity []) rules less down) granted

pub held_in_namespaces : (objects : PolicyObjects) (identity : Identity) (namespace : List ℕ) (rules : List PolicyRule)
    → holds_all (held objects identity []) rules ≡ true → holds_all (held objects identity namespace) rules ≡ true
held_in_namespaces objects identity namespace rules all =
    let more = cluster_wide_first objects identity namespace in
    rw more.1 (none_is_missing (held objects identity [] ++ more.0) rules
    ∙ implied_by_more (held objects identity []) more.0 rules (sym (none_is_missing (held objects identity []) rules) ∙ all))

same_kind : (kind : RoleKind) → is_same_kind kind kind ≡ true
same_kind role_kind.Role = refl
same_kind role_kind.ClusterRole = refl

same_role : (role : RoleRef) → is_same_role role role ≡ true
same_role role = and_from _ _ (same_kind role.kind) (itself role.name)

twice : (b : Bool) → (b || b) ≡ (false || b)
twice true = refl
twice false = refl

pub checked_like_new : (objects : PolicyObjects) (identity : Identity) (request_name : List ℕ) (p : PolicyPut)
    → checked objects identity (write_of request_name (unchanged p)) ≡ checked objects identity (write_of request_name (created p))
unfolding checked rules_held all_held
checked_like_new objects identity request_name (put.Role place role) = refl
checked_like_new objects identity request_name (put.ClusterRole name role) = rw (twice (is_some role.aggregation_rule)) refl
checked_like_new objects identity request_name (put.RoleBinding place binding) = rw (same_role binding.role_ref) refl
checked_like_new objects identity request_name (put.ClusterRoleBinding name binding) = rw (same_role binding.role_ref) refl

kept_alone : (k : Result (Unit {0}) Fault) (e : Bool) (more : Result (Unit {0}) Fault) → e ≡ true → (k >>= λ u. (if e then Ok tt else more)) ≡ k
kept_alone (Ok u) e more is = rw is refl
kept_alone (Err f) e more is = refl

pub masters_pass : (objects : PolicyObjects) (identity : Identity) (w : PolicyWrite)
    → is_master identity ≡ true → checked objects identity w ≡ role_kept w.object
unfolding checked
masters_pass objects identity w master =
    kept_alone (role_kept w.object) (is_exempt objects identity w) (rules_held objects identity w.object (wanted objects w.object))
    (allowed_where_held objects identity (scope w.object) (exemption w.request_name w.object) ∙ rw master refl)
