-- The policy that every machine begins with, and its unprivileged identities.
use Rattle.std.proofs.Common.{◌≡◌, ◌≤◌, ℕ, ◌+◌, List, [], ◌∷◌, ◌++◌, Bool, true, false, if◌then◌else◌, ◌==◌, length, map, refl, sym, ap, ◌∙◌, subst, codes}
use Rattle.std.specs.Fmt.{decimal}
use Rattle.std.specs.List.{flat_map, list_any}
use Rattle.std.specs.Option.{unwrap_or}
use Rattle.std.specs.Str.{chars}
use Rattle.serde_json.specs.Data.{Data}
use Rattle.kapi_object.proofs.OnLiterals.{admission_on_literals}
use Rattle.kapi_model.specs.declared.row.ResourceRow.{ResourceRow}
use Rattle.kapi_model.specs.Identities.{is_in, is_master}
use Rattle.kapi_rbac_types.specs.Trees.{cluster_role_binding_of, cluster_role_of}
use Rattle.kapi_model.specs.declared.identity.Identity.{Identity}
use Rattle.kapi_rules.specs.Rules.{allows}
use Rattle.kapi_rules.specs.declared.point.Point.{Point}
use Rattle.kapi_rules.specs.declared.point.Point.TheVariants as point
use Rattle.kapi_policy.proofs.Decisions.{allowed_where_held}
use Rattle.kapi_policy.specs.Decided.{bindings_in, cluster_binding, given, held, rules_of}
use Rattle.kapi_policy.specs.Objects.{PolicyObjects}
use Rattle.kapi_store.specs.Changes.{placed, placed_all}
use Rattle.kapi_store.specs.UidAndVersion.{uid_of}
use Rattle.kapi_escalation.specs.Kind.{policy_kind}
use Rattle.kapi_escalation.specs.Reading.{collected, policy_objects}
use Rattle.kapi_escalation.specs.Exempt.{binding, escalating}
use Rattle.kapi_aggregation.specs.Roles.{roles_in}
use Rattle.kapi_aggregation.specs.Unions.{IsSettled as AreUnions}
use Rattle.kapi_escalation_laws.specs.Access.{IsUnprivileged, may, verb_of}
use Rattle.kapi_escalation_laws.specs.States.{labelled_roles}
use Rattle.kapi_escalation_laws.proofs.StoredRoles.{labelled_are}
use Rattle.kapi_escalation_laws.specs.StoredStates.{labels_at}
use Rattle.kapi_core.proofs.Gains.{opening_in_order}
use Rattle.kapi_core.proofs.Opened.{five, opened_tree, opening_five, tree_in}
use Rattle.kapi_rbac_types.proofs.Stamped.{cluster_role_binding_stamped, cluster_role_stamped}
use Rattle.kapi_core.specs.Machine.{policy_of}
use Rattle.kapi_core.specs.Opening.{basic_user, basic_user_binding, cluster_admin, cluster_admin_binding, default_namespace, opening}
use Rattle.kapi_core.specs.OpeningPolicy.{ask_of_oneself, opening_policy}
use Rattle.kapi_core.specs.Table.{fits}
use Rattle.kapi_core.specs.Limits.{last_first}

-- ---- the policy

-- what five objects at the opening's places are read as
policy_with : Data → Data → Data → Data → PolicyObjects
policy_with b c d e = record {
  roles = [];
  cluster_roles = (codes "cluster-admin", cluster_role_of b) ∷ (codes "system:basic-user", cluster_role_of c) ∷ [];
  role_bindings = [];
  cluster_role_bindings = (codes "cluster-admin", cluster_role_binding_of d) ∷ (codes "system:basic-user", cluster_role_binding_of e) ∷ [];
}

five_policy : (table : List ResourceRow) (first : ℕ) (a b c d e : Data) → policy_of (five table first a b c d e) ≡ policy_with b c d e
unfolding placed placed_all policy_objects collected policy_kind policy_with
five_policy table first a b c d e = λ i. record {
  roles = [];
  cluster_roles = (codes "cluster-admin", cluster_role_stamped (uid_of (first + 1 + 1)) (decimal (first + 1 + 1)) b i)
      ∷ (codes "system:basic-user", cluster_role_stamped (uid_of (first + 1 + 1 + 1)) (decimal (first + 1 + 1 + 1)) c i)
      ∷ [];
  role_bindings = [];
  cluster_role_bindings = (codes "cluster-admin", cluster_role_binding_stamped (uid_of (first + 1 + 1 + 1 + 1)) (decimal (first + 1 + 1 + 1 + 1)) d i)
      ∷ (codes "system:basic-user", cluster_role_binding_stamped (uid_of (first + 1 + 1 + 1 + 1 + 1)) (decimal (first + 1 + 1 + 1 + 1 + 1)) e i)
      ∷ [];
}

bodies_policy : policy_with (opened_tree cluster_admin) (opened_tree basic_user) (opened_tree cluster_admin_binding) (opened_tree basic_user_binding) ≡ opening_policy
unfolding admission_on_literals chars tree_in policy_with
bodies_policy = refl

pub opening_policy_is : (table : List ResourceRow) (first : ℕ) → fits table ≡ true → first ≤ last_first → policy_of (opening table first) ≡ opening_policy
opening_policy_is table first h low =
    ap policy_of (opening_five table first h low)
    ∙ five_policy table first (opened_tree default_namespace) (opened_tree cluster_admin) (opened_tree basic_user) (opened_tree cluster_admin_binding) (opened_tree basic_user_binding)
    ∙ bodies_policy

-- no cluster role takes rules from others
pub opening_settled : (table : List ResourceRow) (first : ℕ) → fits table ≡ true → first ≤ last_first → AreUnions (roles_in (opening table first).store.objects)
opening_settled table first h low =
    let os = (opening table first).store.objects in
    let P : PolicyObjects → Type 0 = λ objects. AreUnions (labelled_roles objects (labels_at os)) in
    subst AreUnions (labelled_are os (opening_in_order table first))
    (subst P (sym (opening_policy_is table first h low)) ((λ aggregated. absurd (cc aggregated)), ((λ aggregated. absurd (cc aggregated)), tt)))

-- ---- who is unprivileged

module _ (who : Identity) (no_master : is_master who ≡ false) where
  -- the rules that an identity holds
  held_by_him : (namespace : List ℕ) → held opening_policy who namespace ≡ (if is_in (codes "system:authenticated") who then ask_of_oneself ∷ [] else [])
  unfolding held bindings_in given rules_of
  held_by_him namespace = by_case (length namespace == 0) (is_in (codes "system:authenticated") who) refl
    where
      by_case : (b c : Bool) → is_in (codes "system:authenticated") who ≡ c
          → flat_map (λ b. unwrap_or (given opening_policy who b) []) (map cluster_binding opening_policy.cluster_role_bindings ++ (if b then [] else [])) ≡ (if c then ask_of_oneself ∷ [] else [])
      by_case true true is = rw (no_master, is) refl
      by_case true false is = rw (no_master, is) refl
      by_case false true is = rw (no_master, is) refl
      by_case false false is = rw (no_master, is) refl

  may_not : (namespace : List ℕ) (p : Point) → allows ask_of_oneself p ≡ false → may opening_policy who namespace p ≡ false
  may_not namespace p never =
      allowed_where_held opening_policy who namespace p
      ∙ rw (no_master, held_by_him namespace) (by_case (is_in (codes "system:authenticated") who))
    where
      by_case : (c : Bool) → list_any (λ rule. allows rule p) (if c then ask_of_oneself ∷ [] else []) ≡ false
      by_case true = rw never refl
      by_case false = refl

  other_verb : (p : Point) → verb_of p ≡ codes "impersonate" → allows ask_of_oneself p ≡ false
  other_verb (point.Resource p) is = rw is refl
  other_verb (point.Url p) is = rw is refl

  pub opening_unprivileged : IsUnprivileged opening_policy who
  opening_unprivileged = record {
    no_master = no_master;
    no_escalate = λ namespace kind name. may_not namespace (escalating kind name) refl;
    no_bind = λ namespace role. may_not namespace (binding role) refl;
    no_impersonate = λ namespace p is. may_not namespace p (other_verb p is);
  }
