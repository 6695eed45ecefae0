-- Whom a binding gives its role, and what it is to hold a rule.
use Rattle.std.proofs.Common.{◌≡◌, ◌⊎◌, inl, inr, ℕ, Bool, true, false, not, ◌&&◌, ◌||◌, ◌==◌, if◌then◌else◌, List, [], ◌∷◌, ◌++◌, length, map, Option, Some, None, refl, sym, ap, subst, ◌∙◌, ◌+◌}
use Rattle.std.specs.List.{filter, list_any, position}
use Rattle.std.specs.Option.{is_some, unwrap_or}
use Rattle.std.specs.Str.{bytes_eq}
use Rattle.kapi_text.proofs.Booleans.{or_false}
use Rattle.kapi_model.specs.declared.policy_rule.PolicyRule.{PolicyRule}
use Rattle.kapi_model.specs.declared.subject.Subject.{Subject}
use Rattle.kapi_model.specs.declared.subject.Subject.TheVariants.{User, Group, ServiceAccount}
use Rattle.kapi_model.specs.Identities.{is_in, is_master}
use Rattle.kapi_model.specs.Subjects.{account_user, subject_matches, namespace_of}
use Rattle.kapi_model.specs.declared.binding.RoleBinding.{RoleBinding}
use Rattle.kapi_model.specs.declared.identity.Identity.{Identity}
use Rattle.kapi_rules.proofs.Covers.{itself, same}
use Rattle.kapi_rules.proofs.Parts.{any_flat_map, any_same}
use Rattle.kapi_rules.specs.Rules.{allows}
use Rattle.kapi_rules.specs.declared.point.Point.{Point}
use Rattle.kapi_policy.proofs.Decisions.{allowed_where_held, is_some_position}
use Rattle.kapi_policy.specs.All.{all_bindings, bindings_in_namespaces, has_namespace}
use Rattle.kapi_policy.specs.Decided.{Binding, bindings_in, bindings_of, cluster_binding, given, held, is_in as is_there, namespace_binding, rules_of}
use Rattle.kapi_policy.specs.Objects.{PolicyObjects}
use Rattle.kapi_policy.specs.declared.change.NamespacedName.{NamespacedName}
use Rattle.kapi_aggregation.proofs.Lists.{has_kept, has_mapped, kept_of, mapped_of}
use Rattle.kapi_escalation_laws.proofs.Elements.{has_either, has_left, has_right}
use Rattle.kapi_escalation_laws.specs.Access.{may}
use Rattle.kapi_aggregation.specs.Members.{Has}
use Rattle.kapi_access.specs.declared.grantee.Grantee.{Grantee}
use Rattle.kapi_access.specs.declared.grantee.Grantee.TheVariants as grantee
use Rattle.kapi_access.specs.Grantees.{grantees, matches, role_of, whom}
use Rattle.kapi_access.specs.Who.{Way, is_named, ways, ways_by, ways_of, who_may}
use Rattle.kapi_access.proofs.First.{first_named}

-- ---- grantees

named : (s : Subject) (namespace : List ℕ) (identity : Identity) → list_any (λ g. matches g identity) (whom namespace s) ≡ subject_matches s namespace identity
named (User name) namespace identity = or_false (bytes_eq identity.user name)
named (Group name) namespace identity = or_false (is_in name identity)
named (ServiceAccount a) namespace identity = by_case (length (namespace_of a namespace) == 0)
  where
    user : List ℕ
    user = account_user (namespace_of a namespace) a.name

    by_case : (b : Bool) → list_any (λ g. matches g identity) (if b then [] else grantee.User user ∷ []) ≡ (not b && bytes_eq identity.user user)
    by_case true = refl
    by_case false = or_false (bytes_eq identity.user user)

pub bound_by : (b : Binding) (identity : Identity) → list_any (λ g. matches g identity) (grantees b) ≡ list_any (λ s. subject_matches s b.namespace identity) b.subjects
bound_by b identity =
    any_flat_map (λ g. matches g identity) (whom b.namespace) b.subjects ∙ any_same _ _ b.subjects (λ s. named s b.namespace identity)

-- ---- rules that a binding gives

module _ (objects : PolicyObjects) (identity : Identity) (test : PolicyRule → Bool) where
  named_alike : (b : Binding) (rule : ℕ) (list : List Grantee)
      → is_named (map (λ to. record { to = to; binding = b; rule = rule }) list) identity ≡ list_any (λ g. matches g identity) list
  named_alike b rule [] = refl
  named_alike b rule (to ∷ list) = ap (λ t. matches to identity || t) (named_alike b rule list)

  named_by : (b : Binding) (o : Option ℕ) → is_named (ways_by b o) identity ≡ (is_some o && list_any (λ g. matches g identity) (grantees b))
  named_by b None = refl
  named_by b (Some rule) = named_alike b rule (grantees b)

  given_if : (b : Binding) (bound : Bool)
      → list_any test (unwrap_or (if bound then rules_of objects b.role b.namespace else None) []) ≡ (list_any test (role_of objects b) && bound)
  given_if b true = and_true (list_any test (role_of objects b))
    where
      and_true : (t : Bool) → t ≡ (t && true)
      and_true true = refl
      and_true false = refl
  given_if b false = and_false (list_any test (role_of objects b))
    where
      and_false : (t : Bool) → false ≡ (t && false)
      and_false true = refl
      and_false false = refl

  -- a rule that passes is given exactly if a line names the identity
  pub given_named : (b : Binding) → list_any test (unwrap_or (given objects identity b) []) ≡ is_named (ways_of objects test b) identity
  unfolding given
  given_named b =
      given_if b (list_any (λ s. subject_matches s b.namespace identity) b.subjects)
      ∙ ap (λ t. list_any test (role_of objects b) && t) (sym (bound_by b identity))
      ∙ ap (λ t. t && list_any (λ g. matches g identity) (grantees b)) (sym (is_some_position test (role_of objects b)))
      ∙ sym (named_by b (position test (role_of objects b)))

  pub held_named : (namespace : List ℕ) → list_any test (held objects identity namespace) ≡ is_named (ways objects test (bindings_in objects namespace)) identity
  unfolding held
  held_named namespace =
      any_flat_map test (λ b. unwrap_or (given objects identity b) []) (bindings_in objects namespace)
      ∙ any_same _ _ (bindings_in objects namespace) given_named
      ∙ sym (any_flat_map (λ (w : Way). matches w.to identity) (ways_of objects test) (bindings_in objects namespace))

-- who may is who is listed
pub who_is_exact : (objects : PolicyObjects) (identity : Identity) (namespace : List ℕ) (p : Point)
    → may objects identity namespace p ≡ (is_master identity || is_named (who_may objects namespace p) identity)
unfolding who_may
who_is_exact objects identity namespace p =
    allowed_where_held objects identity namespace p
    ∙ ap (λ t. is_master identity || t)
    (held_named objects identity (λ rule. allows rule p) namespace ∙ sym (first_named identity (ways objects (λ rule. allows rule p) (bindings_in objects namespace))))

-- ---- bindings that count

pub counted : (objects : PolicyObjects) (namespace : List ℕ) (b : Binding) → Has (bindings_in objects namespace) b → Has (all_bindings objects) b
unfolding bindings_in all_bindings
counted objects namespace b has = by_kind (has_either (map cluster_binding objects.cluster_role_bindings) (if length namespace == 0 then [] else bindings_of namespace objects.role_bindings) b has)
  where
    in_namespace : (c : Bool) → (length namespace == 0) ≡ c → Has (if c then [] else bindings_of namespace objects.role_bindings) b → Has (bindings_in_namespaces objects.role_bindings) b
    in_namespace true is never = absurd never
    in_namespace false is there =
        let entry = mapped_of namespace_binding (filter (λ (entry : NamespacedName × RoleBinding). is_there namespace entry.0) objects.role_bindings) b there in
        let kept = kept_of (λ (entry : NamespacedName × RoleBinding). is_there namespace entry.0) objects.role_bindings entry.0 entry.1.0 in
        subst (λ x. Has (bindings_in_namespaces objects.role_bindings) x) entry.1.1
        (has_mapped namespace_binding (filter has_namespace objects.role_bindings) entry.0
        (has_kept has_namespace objects.role_bindings entry.0 kept.0 (rw (same entry.0.0.namespace namespace kept.1, is) refl)))

    by_kind : Has (map cluster_binding objects.cluster_role_bindings) b ⊎ Has (if length namespace == 0 then [] else bindings_of namespace objects.role_bindings) b
        → Has (map cluster_binding objects.cluster_role_bindings ++ bindings_in_namespaces objects.role_bindings) b
    by_kind (inl wide) = has_left _ _ b wide
    by_kind (inr there) = has_right (map cluster_binding objects.cluster_role_bindings) _ b (in_namespace (length namespace == 0) refl there)

pub counts_there : (objects : PolicyObjects) (b : Binding) → Has (all_bindings objects) b → Has (bindings_in objects b.namespace) b
unfolding bindings_in all_bindings
counts_there objects b has = by_kind (has_either (map cluster_binding objects.cluster_role_bindings) (bindings_in_namespaces objects.role_bindings) b has)
  where
    at_entry : (entry : NamespacedName × RoleBinding) → Has objects.role_bindings entry → has_namespace entry ≡ true → (c : Bool) → (length entry.0.namespace == 0) ≡ c
        → Has (if c then [] else bindings_of entry.0.namespace objects.role_bindings) (namespace_binding entry)
    at_entry entry stands some true is = absurd (let never = rw is at some in cc)
    at_entry entry stands some false is =
        has_mapped namespace_binding (filter (λ (e : NamespacedName × RoleBinding). is_there entry.0.namespace e.0) objects.role_bindings) entry
        (has_kept (λ (e : NamespacedName × RoleBinding). is_there entry.0.namespace e.0) objects.role_bindings entry stands (itself entry.0.namespace))

    by_kind : Has (map cluster_binding objects.cluster_role_bindings) b ⊎ Has (bindings_in_namespaces objects.role_bindings) b
        → Has (map cluster_binding objects.cluster_role_bindings ++ (if length b.namespace == 0 then [] else bindings_of b.namespace objects.role_bindings)) b
    by_kind (inl wide) = has_left _ _ b wide
    by_kind (inr there) =
        let entry = mapped_of namespace_binding (filter has_namespace objects.role_bindings) b there in
        let kept = kept_of has_namespace objects.role_bindings entry.0 entry.1.0 in
        subst (λ (x : Binding). Has (map cluster_binding objects.cluster_role_bindings ++ (if length x.namespace == 0 then [] else bindings_of x.namespace objects.role_bindings)) x) entry.1.1
        (has_right (map cluster_binding objects.cluster_role_bindings) _ _ (at_entry entry.0 kept.0 kept.1 (length entry.0.0.namespace == 0) refl))

wide_everywhere : (objects : PolicyObjects) (namespace : List ℕ) (b : Binding) → Has (bindings_in objects []) b → Has (bindings_in objects namespace) b
unfolding bindings_in
wide_everywhere objects namespace b has = by_kind (has_either (map cluster_binding objects.cluster_role_bindings) [] b has)
  where
    by_kind : Has (map cluster_binding objects.cluster_role_bindings) b ⊎ Has [] b
        → Has (map cluster_binding objects.cluster_role_bindings ++ (if length namespace == 0 then [] else bindings_of namespace objects.role_bindings)) b
    by_kind (inl wide) = has_left _ _ b wide
    by_kind (inr never) = absurd never

-- a binding counts where it stands, and everywhere where it is cluster-wide
pub counts_in : (objects : PolicyObjects) (namespace : List ℕ) (b : Binding) → Has (all_bindings objects) b → (b.namespace ≡ []) ⊎ (b.namespace ≡ namespace) → Has (bindings_in objects namespace) b
counts_in objects namespace b has (inl wide) = wide_everywhere objects namespace b (subst (λ n. Has (bindings_in objects n) b) wide (counts_there objects b has))
counts_in objects namespace b has (inr there) = subst (λ n. Has (bindings_in objects n) b) there (counts_there objects b has)
