-- What look-ups and walks find after a change.
use Rattle.std.proofs.Common.{◌≡◌, ◌⊎◌, inl, inr, ℕ, List, [], ◌++◌, Bool, true, false, if◌then◌else◌, ◌==◌, length, map, Option, Some, None, refl, sym, ap, ◌∙◌}
use Rattle.std.specs.List.{filter}
use Rattle.std.specs.BTreeMap.{is_at}
use Rattle.std.specs.Map.{lookup}
use Rattle.std.specs.Str.{bytes_eq}
use Rattle.kapi_model.specs.declared.kinds.RoleKind.TheVariants as role_kind
use Rattle.kapi_model.specs.declared.policy_rule.PolicyRule.{PolicyRule}
use Rattle.kapi_model.specs.declared.binding.ClusterRoleBinding.{ClusterRoleBinding}
use Rattle.kapi_model.specs.declared.binding.RoleBinding.{RoleBinding}
use Rattle.kapi_model.specs.declared.role.ClusterRole.{ClusterRole}
use Rattle.kapi_model.specs.declared.role.Role.{Role}
use Rattle.kapi_policy.proofs.Keys.{lookup_name}
use Rattle.kapi_policy.proofs.Sets.{delete_is_without, put_is_with}
use Rattle.kapi_policy.specs.Decided.{Binding, bindings_in, bindings_of, cluster_binding, is_in, is_place, namespace_binding, rules_in, rules_of_kind}
use Rattle.kapi_policy.specs.Laws.{IsInOrder}
use Rattle.kapi_policy.specs.Objects.{PolicyObjects, applied, name_cmp, place_cmp, with_object, without_object}
use Rattle.kapi_policy.specs.declared.change.NamespacedName.{NamespacedName}
use Rattle.kapi_policy.specs.declared.change.PolicyChange.TheVariants as change
use Rattle.kapi_policy.specs.declared.change.PolicyKey.TheVariants as key
use Rattle.kapi_policy.specs.declared.change.PolicyPut.TheVariants as put
use Rattle.kapi_aggregation.proofs.Lists.{has_kept, has_mapped, kept_of, mapped_of}
use Rattle.kapi_escalation_laws.proofs.Elements.{has_either, has_left, has_right}
use Rattle.kapi_escalation_laws.proofs.Entries.{delete_has, lookup_by, name_exact, name_found, place_exact, place_found, put_has, same_place}
use Rattle.kapi_aggregation.specs.Members.{Has}
use Rattle.kapi_escalation_laws.specs.States.{cluster_role_at}

-- ---- cluster roles

pub cluster_role_put : (objects : PolicyObjects) (name : List ℕ) (r : ClusterRole) (q : List ℕ)
    → cluster_role_at (applied (change.Put (put.ClusterRole name r)) objects) q ≡ (if bytes_eq q name then Some r else cluster_role_at objects q)
cluster_role_put objects name r q =
    sym (lookup_name q (applied (change.Put (put.ClusterRole name r)) objects).cluster_roles)
    ∙ (put_is_with (put.ClusterRole name r) objects).0 q
    ∙ rw (name_found q name, lookup_name q objects.cluster_roles) refl

pub cluster_role_deleted : (objects : PolicyObjects) → IsInOrder objects → (name q : List ℕ)
    → cluster_role_at (applied (change.Delete (key.ClusterRole name)) objects) q ≡ (if bytes_eq q name then None else cluster_role_at objects q)
cluster_role_deleted objects order name q =
    sym (lookup_name q (applied (change.Delete (key.ClusterRole name)) objects).cluster_roles)
    ∙ (delete_is_without (key.ClusterRole name) objects order).0 q
    ∙ rw (name_found q name, lookup_name q objects.cluster_roles) refl

-- ---- roles

lookup_place : {X : Type 0} (q : NamespacedName) (es : List (NamespacedName × X)) → lookup (is_at (place_cmp q)) es ≡ lookup (is_place q.namespace q.name) es
lookup_place q es = lookup_by (is_at (place_cmp q)) (is_place q.namespace q.name) (place_found q) es

-- a name in a namespace
abbrev at_place : List ℕ → List ℕ → NamespacedName
at_place namespace name = record { namespace = namespace; name = name }

put_or_was : (e t : Bool) (r : Role) (was : Option Role) (rules : List PolicyRule) → (if e then None else rules_in (if t then Some r else was)) ≡ Some rules
    → ((t ≡ true) × (r.rules ≡ rules)) ⊎ ((if e then None else rules_in was) ≡ Some rules)
put_or_was true t r was rules h = absurd (cc h)
put_or_was false true r was rules h = inl (refl, cc h)
put_or_was false false r was rules h = inr h

deleted_or_was : (e t : Bool) (was : Option Role) (rules : List PolicyRule) → (if e then None else rules_in (if t then None else was)) ≡ Some rules
    → (if e then None else rules_in was) ≡ Some rules
deleted_or_was true t was rules h = absurd (cc h)
deleted_or_was false true was rules h = absurd (cc h)
deleted_or_was false false was rules h = h

pub role_put : (objects : PolicyObjects) (place : NamespacedName) (r : Role) (name namespace : List ℕ) (rules : List PolicyRule)
    → rules_of_kind (applied (change.Put (put.Role place r)) objects) role_kind.Role name namespace ≡ Some rules
    → ((place.namespace ≡ namespace) × (r.rules ≡ rules)) ⊎ (rules_of_kind objects role_kind.Role name namespace ≡ Some rules)
role_put objects place r name namespace rules h = by_case (put_or_was (length namespace == 0) (is_place namespace name place) r (lookup (is_place namespace name) objects.roles) rules (rw (← after) h))
  where
    after : lookup (is_place namespace name) (applied (change.Put (put.Role place r)) objects).roles
        ≡ (if is_place namespace name place then Some r else lookup (is_place namespace name) objects.roles)
    after =
        sym (lookup_place (at_place namespace name) (applied (change.Put (put.Role place r)) objects).roles)
        ∙ (put_is_with (put.Role place r) objects).0 (at_place namespace name)
        ∙ rw (place_found (at_place namespace name) place, lookup_place (at_place namespace name) objects.roles) refl

    by_case : ((is_place namespace name place ≡ true) × (r.rules ≡ rules)) ⊎ (rules_of_kind objects role_kind.Role name namespace ≡ Some rules)
        → ((place.namespace ≡ namespace) × (r.rules ≡ rules)) ⊎ (rules_of_kind objects role_kind.Role name namespace ≡ Some rules)
    by_case (inl here) = inl ((same_place namespace name place here.0).0, here.1)
    by_case (inr was) = inr was

pub role_deleted : (objects : PolicyObjects) → IsInOrder objects → (place : NamespacedName) (name namespace : List ℕ) (rules : List PolicyRule)
    → rules_of_kind (applied (change.Delete (key.Role place)) objects) role_kind.Role name namespace ≡ Some rules
    → rules_of_kind objects role_kind.Role name namespace ≡ Some rules
role_deleted objects order place name namespace rules h = deleted_or_was (length namespace == 0) (is_place namespace name place) (lookup (is_place namespace name) objects.roles) rules (rw (← after) h)
  where
    after : lookup (is_place namespace name) (applied (change.Delete (key.Role place)) objects).roles
        ≡ (if is_place namespace name place then None else lookup (is_place namespace name) objects.roles)
    after =
        sym (lookup_place (at_place namespace name) (applied (change.Delete (key.Role place)) objects).roles)
        ∙ (delete_is_without (key.Role place) objects order).0 (at_place namespace name)
        ∙ rw (place_found (at_place namespace name) place, lookup_place (at_place namespace name) objects.roles) refl

-- ---- bindings

module _ (namespace : List ℕ) where
  -- the bindings that count, of two lists
  abbrev counting : List (List ℕ × ClusterRoleBinding) → List (NamespacedName × RoleBinding) → List Binding
  counting wide here = map cluster_binding wide ++ (if length namespace == 0 then [] else bindings_of namespace here)

  wide_from : (wide more : List (List ℕ × ClusterRoleBinding)) (here : List (NamespacedName × RoleBinding)) (new : List ℕ × ClusterRoleBinding) (b : Binding)
      → ((e : List ℕ × ClusterRoleBinding) → Has more e → (new ≡ e) ⊎ Has wide e) → Has (counting more here) b → (cluster_binding new ≡ b) ⊎ Has (counting wide here) b
  wide_from wide more here new b from has = by_part (has_either (map cluster_binding more) (if length namespace == 0 then [] else bindings_of namespace here) b has)
    where
      by_entry : (e : List ℕ × ClusterRoleBinding) → cluster_binding e ≡ b → (new ≡ e) ⊎ Has wide e → (cluster_binding new ≡ b) ⊎ Has (counting wide here) b
      by_entry e is (inl same) = inl (ap cluster_binding same ∙ is)
      by_entry e is (inr was) = inr (has_left (map cluster_binding wide) (if length namespace == 0 then [] else bindings_of namespace here) b (rw (← is) (has_mapped cluster_binding wide e was)))

      by_part : Has (map cluster_binding more) b ⊎ Has (if length namespace == 0 then [] else bindings_of namespace here) b → (cluster_binding new ≡ b) ⊎ Has (counting wide here) b
      by_part (inl there) = let e = mapped_of cluster_binding more b there in by_entry e.0 e.1.1 (from e.0 e.1.0)
      by_part (inr there) = inr (has_right (map cluster_binding wide) (if length namespace == 0 then [] else bindings_of namespace here) b there)

  here_from : (wide : List (List ℕ × ClusterRoleBinding)) (here more : List (NamespacedName × RoleBinding)) (new : NamespacedName × RoleBinding) (b : Binding)
      → ((e : NamespacedName × RoleBinding) → Has more e → (new ≡ e) ⊎ Has here e) → Has (counting wide more) b → (namespace_binding new ≡ b) ⊎ Has (counting wide here) b
  here_from wide here more new b from has = by_part (has_either (map cluster_binding wide) (if length namespace == 0 then [] else bindings_of namespace more) b has)
    where
      by_entry : (e : NamespacedName × RoleBinding) → namespace_binding e ≡ b → is_in namespace e.0 ≡ true → (new ≡ e) ⊎ Has here e → (namespace_binding new ≡ b) ⊎ Has (bindings_of namespace here) b
      by_entry e is within (inl same) = inl (ap namespace_binding same ∙ is)
      by_entry e is within (inr was) =
          inr (rw (← is) (has_mapped namespace_binding (filter (λ entry. is_in namespace entry.0) here) e (has_kept (λ (entry : NamespacedName × RoleBinding). is_in namespace entry.0) here e was within)))

      by_walk : (t : Bool) → Has (if t then [] else bindings_of namespace more) b → (namespace_binding new ≡ b) ⊎ Has (if t then [] else bindings_of namespace here) b
      by_walk true never = absurd never
      by_walk false there =
          let e = mapped_of namespace_binding (filter (λ entry. is_in namespace entry.0) more) b there in
          let kept = kept_of (λ (entry : NamespacedName × RoleBinding). is_in namespace entry.0) more e.0 e.1.0 in
          by_entry e.0 e.1.1 kept.1 (from e.0 kept.0)

      behind : (namespace_binding new ≡ b) ⊎ Has (if length namespace == 0 then [] else bindings_of namespace here) b → (namespace_binding new ≡ b) ⊎ Has (counting wide here) b
      behind (inl is) = inl is
      behind (inr there) = inr (has_right (map cluster_binding wide) (if length namespace == 0 then [] else bindings_of namespace here) b there)

      by_part : Has (map cluster_binding wide) b ⊎ Has (if length namespace == 0 then [] else bindings_of namespace more) b → (namespace_binding new ≡ b) ⊎ Has (counting wide here) b
      by_part (inl there) = inr (has_left (map cluster_binding wide) (if length namespace == 0 then [] else bindings_of namespace here) b there)
      by_part (inr there) = behind (by_walk (length namespace == 0) there)

  wide_in : (wide less : List (List ℕ × ClusterRoleBinding)) (here : List (NamespacedName × RoleBinding)) (b : Binding)
      → ((e : List ℕ × ClusterRoleBinding) → Has less e → Has wide e) → Has (counting less here) b → Has (counting wide here) b
  wide_in wide less here b among has = by_part (has_either (map cluster_binding less) (if length namespace == 0 then [] else bindings_of namespace here) b has)
    where
      by_part : Has (map cluster_binding less) b ⊎ Has (if length namespace == 0 then [] else bindings_of namespace here) b → Has (counting wide here) b
      by_part (inl there) =
          let e = mapped_of cluster_binding less b there in
          has_left (map cluster_binding wide) (if length namespace == 0 then [] else bindings_of namespace here) b (rw (← e.1.1) (has_mapped cluster_binding wide e.0 (among e.0 e.1.0)))
      by_part (inr there) = has_right (map cluster_binding wide) (if length namespace == 0 then [] else bindings_of namespace here) b there

  here_in : (wide : List (List ℕ × ClusterRoleBinding)) (here less : List (NamespacedName × RoleBinding)) (b : Binding)
      → ((e : NamespacedName × RoleBinding) → Has less e → Has here e) → Has (counting wide less) b → Has (counting wide here) b
  here_in wide here less b among has = by_part (has_either (map cluster_binding wide) (if length namespace == 0 then [] else bindings_of namespace less) b has)
    where
      by_walk : (t : Bool) → Has (if t then [] else bindings_of namespace less) b → Has (if t then [] else bindings_of namespace here) b
      by_walk true never = absurd never
      by_walk false there =
          let e = mapped_of namespace_binding (filter (λ entry. is_in namespace entry.0) less) b there in
          let kept = kept_of (λ (entry : NamespacedName × RoleBinding). is_in namespace entry.0) less e.0 e.1.0 in
          rw (← e.1.1) (has_mapped namespace_binding (filter (λ entry. is_in namespace entry.0) here) e.0 (has_kept (λ (entry : NamespacedName × RoleBinding). is_in namespace entry.0) here e.0 (among e.0 kept.0) kept.1))

      by_part : Has (map cluster_binding wide) b ⊎ Has (if length namespace == 0 then [] else bindings_of namespace less) b → Has (counting wide here) b
      by_part (inl there) = has_left (map cluster_binding wide) (if length namespace == 0 then [] else bindings_of namespace here) b there
      by_part (inr there) = has_right (map cluster_binding wide) (if length namespace == 0 then [] else bindings_of namespace here) b (by_walk (length namespace == 0) there)

  pub binding_put : (objects : PolicyObjects) (place : NamespacedName) (new : RoleBinding) (b : Binding)
      → Has (bindings_in (applied (change.Put (put.RoleBinding place new)) objects) namespace) b → (namespace_binding (place, new) ≡ b) ⊎ Has (bindings_in objects namespace) b
  unfolding applied with_object bindings_in
  binding_put objects place new b has =
      here_from objects.cluster_role_bindings objects.role_bindings (applied (change.Put (put.RoleBinding place new)) objects).role_bindings (place, new) b
      (λ e there. put_has place_cmp place_exact objects.role_bindings place new e there) has

  pub cluster_binding_put : (objects : PolicyObjects) (name : List ℕ) (new : ClusterRoleBinding) (b : Binding)
      → Has (bindings_in (applied (change.Put (put.ClusterRoleBinding name new)) objects) namespace) b → (cluster_binding (name, new) ≡ b) ⊎ Has (bindings_in objects namespace) b
  unfolding applied with_object bindings_in
  cluster_binding_put objects name new b has =
      wide_from objects.cluster_role_bindings (applied (change.Put (put.ClusterRoleBinding name new)) objects).cluster_role_bindings objects.role_bindings (name, new) b
      (λ e there. put_has name_cmp name_exact objects.cluster_role_bindings name new e there) has

  pub binding_deleted : (objects : PolicyObjects) (place : NamespacedName) (b : Binding)
      → Has (bindings_in (applied (change.Delete (key.RoleBinding place)) objects) namespace) b → Has (bindings_in objects namespace) b
  unfolding applied without_object bindings_in
  binding_deleted objects place b has =
      here_in objects.cluster_role_bindings objects.role_bindings (applied (change.Delete (key.RoleBinding place)) objects).role_bindings b
      (λ e there. delete_has (is_at (place_cmp place)) objects.role_bindings e there) has

  pub cluster_binding_deleted : (objects : PolicyObjects) (name : List ℕ) (b : Binding)
      → Has (bindings_in (applied (change.Delete (key.ClusterRoleBinding name)) objects) namespace) b → Has (bindings_in objects namespace) b
  unfolding applied without_object bindings_in
  cluster_binding_deleted objects name b has =
      wide_in objects.cluster_role_bindings (applied (change.Delete (key.ClusterRoleBinding name)) objects).cluster_role_bindings objects.role_bindings b
      (λ e there. delete_has (is_at (name_cmp name)) objects.cluster_role_bindings e there) has
