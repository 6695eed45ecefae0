-- The walk over the bindings that match an identity finds what the walk over all does.
use Rattle.std.proofs.Common.{◌≡◌, ℕ, Bool, true, false, cond, ◌&&◌, if◌then◌else◌, List, [], ◌∷◌, ◌++◌, map, Option, Some, None, refl, sym, ap, append_assoc, ◌∙◌}
use Rattle.std.specs.BTreeMap.{insert_entry, is_at}
use Rattle.std.specs.List.{filter, flat_map}
use Rattle.std.specs.Map.{lookup, remove_entry}
use Rattle.std.specs.Ordering.{match_ordering}
use Rattle.std.specs.declared.cmp.Ordering.TheVariants.{Less, Equal, Greater}
use Rattle.std.specs.Option.{is_some, option_or, unwrap_or}
use Rattle.std.specs.Str.{bytes_eq}
use Rattle.std.specs.declared.collections.Bound.TheVariants.{Unbounded}
use Rattle.std.proofs.lemmas.Map.Text.{is_eq-slice_cmp}
use Rattle.kapi_model.specs.declared.binding.ClusterRoleBinding.{ClusterRoleBinding}
use Rattle.kapi_model.specs.declared.binding.RoleBinding.{RoleBinding}
use Rattle.kapi_model.specs.declared.role_ref.RoleRef.{RoleRef}
use Rattle.kapi_model.specs.declared.subject.Subject.{Subject}
use Rattle.kapi_policy.specs.declared.decision.Grant.{Grant}
use Rattle.kapi_policy.specs.Views.{granted_if}
use Rattle.kapi_model.specs.declared.identity.Identity.{Identity}
use Rattle.kapi_model.specs.declared.policy_rule.PolicyRule.{PolicyRule}
use Rattle.kapi_rules.specs.declared.point.Point.{Point}
use Rattle.kapi_policy.specs.Decided.{Granted, bindings_of, cluster_binding, first_some, given, granted_by, is_in, is_place, namespace_binding, rules_in, rules_of}
use Rattle.kapi_policy.specs.Objects.{PolicyObjects, name_cmp}
use Rattle.kapi_policy.specs.declared.change.NamespacedName.{NamespacedName}
use Rattle.kapi_policy.specs.declared.decision.BindingKind.{BindingKind}
use Rattle.kapi_policy.specs.declared.decision.BindingKind.TheVariants as kind
use Rattle.kapi_text.proofs.Booleans.{turned}
use Rattle.kapi_index.proofs.Placed.{Spaces, at_text}
use Rattle.kapi_index.proofs.Spread.{in_space, lookup_text, named_at}
use Rattle.kapi_index.specs.Contents.{AreDistinct, binding_at, bindings_in, by_text, cluster_wide, grant_of, in_all, in_one, placed, roles_in}
use Rattle.kapi_index.specs.Scopes.{Scoped, left, matches}
use Rattle.kapi_index.specs.declared.spaces.Namespace.{Namespace}

-- ---- one binding

given_meant : (objects : PolicyObjects) (identity : Identity) (k : BindingKind) (ns : List ℕ) (e : List ℕ × RoleBinding) → matches ns identity e.1 ≡ true
    → given objects identity (binding_at k ns e) ≡ rules_of objects e.1.role_ref ns
unfolding given
given_meant objects identity k ns e meant = rw meant refl

given_unmeant : (objects : PolicyObjects) (identity : Identity) (k : BindingKind) (ns : List ℕ) (e : List ℕ × RoleBinding) → matches ns identity e.1 ≡ false
    → given objects identity (binding_at k ns e) ≡ None
unfolding given
given_unmeant objects identity k ns e meant = rw meant refl

pub granted_meant : (objects : PolicyObjects) (identity : Identity) (point : Point) (k : BindingKind) (ns : List ℕ) (e : List ℕ × RoleBinding) → matches ns identity e.1 ≡ true
    → granted_by objects identity point (binding_at k ns e) ≡ grant_of objects point (binding_at k ns e)
unfolding granted_by
granted_meant objects identity point k ns e meant = rw (given_meant objects identity k ns e meant) refl

granted_unmeant : (objects : PolicyObjects) (identity : Identity) (point : Point) (k : BindingKind) (ns : List ℕ) (e : List ℕ × RoleBinding) → matches ns identity e.1 ≡ false
    → granted_by objects identity point (binding_at k ns e) ≡ None
unfolding granted_by
granted_unmeant objects identity point k ns e meant = rw (given_unmeant objects identity k ns e meant) refl

-- ---- all bindings of a scope

module _ (objects : PolicyObjects) (identity : Identity) (point : Point) (k : BindingKind) (s : Scoped) where
  first_kept : (es : List (List ℕ × RoleBinding))
      → first_some (granted_by objects identity point) (map (binding_at k s.namespace) (filter (λ e. true && matches s.namespace identity e.1) es))
      ≡ first_some (granted_by objects identity point) (map (binding_at k s.namespace) es)
  first_kept [] = refl
  first_kept (e ∷ es) = by_test (matches s.namespace identity e.1) refl (first_kept es)
    where
      by_test : (b : Bool) → matches s.namespace identity e.1 ≡ b
          → first_some (granted_by objects identity point) (map (binding_at k s.namespace) (filter (λ e. true && matches s.namespace identity e.1) es))
          ≡ first_some (granted_by objects identity point) (map (binding_at k s.namespace) es)
          → first_some (granted_by objects identity point) (map (binding_at k s.namespace) (filter (λ e. true && matches s.namespace identity e.1) (e ∷ es)))
          ≡ first_some (granted_by objects identity point) (map (binding_at k s.namespace) (e ∷ es))
      by_test true is more = rw is (ap (option_or (granted_by objects identity point (binding_at k s.namespace e))) more)
      by_test false is more = rw (is, granted_unmeant objects identity point k s.namespace e is) more

  pub first_meant : first_some (granted_by objects identity point) (map (binding_at k s.namespace) (left identity Unbounded s))
      ≡ first_some (granted_by objects identity point) (map (binding_at k s.namespace) s.bindings)
  first_meant = first_kept s.bindings

  pub first_step : (here rest : List (List ℕ × RoleBinding)) (e : List ℕ × RoleBinding) → here ≡ e ∷ rest → matches s.namespace identity e.1 ≡ true
      → first_some (granted_by objects identity point) (map (binding_at k s.namespace) here)
      ≡ option_or (grant_of objects point (binding_at k s.namespace e)) (first_some (granted_by objects identity point) (map (binding_at k s.namespace) rest))
  first_step here rest e split meant =
      ap (λ l. first_some (granted_by objects identity point) (map (binding_at k s.namespace) l)) split
      ∙ ap (λ o. option_or o (first_some (granted_by objects identity point) (map (binding_at k s.namespace) rest))) (granted_meant objects identity point k s.namespace e meant)

  pub first_end : (here : List (List ℕ × RoleBinding)) → here ≡ [] → first_some (granted_by objects identity point) (map (binding_at k s.namespace) here) ≡ None
  first_end here none = ap (λ l. first_some (granted_by objects identity point) (map (binding_at k s.namespace) l)) none

module _ (objects : PolicyObjects) (identity : Identity) (k : BindingKind) (s : Scoped) where
  abbrev pub all_given : List (List ℕ × RoleBinding) → List PolicyRule
  all_given es = flat_map (λ b. unwrap_or (given objects identity b) []) (map (binding_at k s.namespace) es)

  given_kept : (es : List (List ℕ × RoleBinding)) → all_given (filter (λ e. true && matches s.namespace identity e.1) es) ≡ all_given es
  given_kept [] = refl
  given_kept (e ∷ es) = by_test (matches s.namespace identity e.1) refl (given_kept es)
    where
      by_test : (b : Bool) → matches s.namespace identity e.1 ≡ b → all_given (filter (λ e. true && matches s.namespace identity e.1) es) ≡ all_given es
          → all_given (filter (λ e. true && matches s.namespace identity e.1) (e ∷ es)) ≡ all_given (e ∷ es)
      by_test true is more = rw is (ap (λ l. unwrap_or (given objects identity (binding_at k s.namespace e)) [] ++ l) more)
      by_test false is more = rw (is, given_unmeant objects identity k s.namespace e is) more

  pub given_left : all_given (left identity Unbounded s) ≡ all_given s.bindings
  given_left = given_kept s.bindings

  pub given_step : (before after whole : List PolicyRule) (here rest : List (List ℕ × RoleBinding)) (e : List ℕ × RoleBinding) → here ≡ e ∷ rest → matches s.namespace identity e.1 ≡ true
      → before ++ all_given here ≡ whole → after ≡ before ++ unwrap_or (rules_of objects e.1.role_ref s.namespace) [] → after ++ all_given rest ≡ whole
  given_step before after whole here rest e split meant same pushed =
      ap (λ l. l ++ all_given rest) pushed
      ∙ append_assoc before (unwrap_or (rules_of objects e.1.role_ref s.namespace) []) (all_given rest)
      ∙ ap (λ o. before ++ (unwrap_or o [] ++ all_given rest)) (sym (given_meant objects identity k s.namespace e meant))
      ∙ ap (λ l. before ++ all_given l) (sym split) ∙ same

-- ---- the scopes of a policy

clusters_placed : (es : List (List ℕ × RoleBinding)) → map cluster_binding (map cluster_wide es) ≡ map (binding_at kind.ClusterRoleBinding []) es
clusters_placed [] = refl
clusters_placed (e ∷ es) = ap (λ l. binding_at kind.ClusterRoleBinding [] e ∷ l) (clusters_placed es)

pub cluster_bindings : (objects : PolicyObjects) (s : Scoped) → objects.cluster_role_bindings ≡ map cluster_wide s.bindings → s.namespace ≡ []
    → map cluster_binding objects.cluster_role_bindings ≡ map (binding_at kind.ClusterRoleBinding s.namespace) s.bindings
cluster_bindings objects s seen none =
    ap (map cluster_binding) seen ∙ clusters_placed s.bindings ∙ ap (λ n. map (binding_at kind.ClusterRoleBinding n) s.bindings) (sym none)

bindings_placed : (ns : List ℕ) (es : List (List ℕ × RoleBinding)) → map namespace_binding (map (placed ns) es) ≡ map (binding_at kind.RoleBinding ns) es
bindings_placed ns [] = refl
bindings_placed ns (e ∷ es) = rw (bindings_placed ns es) refl

bindings_there : (ns : List ℕ) (spaces : Spaces) → AreDistinct (by_text spaces)
    → bindings_of ns (in_all bindings_in (by_text spaces)) ≡ map (binding_at kind.RoleBinding ns) (in_one bindings_in (at_text ns spaces))
bindings_there ns spaces spread =
    ap (map namespace_binding) (in_space bindings_in ns (by_text spaces) spread.sorted)
    ∙ bindings_placed ns (in_one bindings_in (lookup (is_at (name_cmp ns)) (by_text spaces)))
    ∙ ap (λ o. map (binding_at kind.RoleBinding ns) (in_one bindings_in o)) (sym (lookup_text ns spaces))

pub bindings_found : (ns : List ℕ) (spaces : Spaces) (v : Namespace) → AreDistinct (by_text spaces) → Some v ≡ at_text ns spaces
    → bindings_of ns (in_all bindings_in (by_text spaces)) ≡ map (binding_at kind.RoleBinding v.bound.namespace) v.bound.bindings
bindings_found ns spaces v spread found =
    bindings_there ns spaces spread ∙ ap (λ o. map (binding_at kind.RoleBinding ns) (in_one bindings_in o)) (sym found)
    ∙ ap (λ n. map (binding_at kind.RoleBinding n) v.bound.bindings) (sym (named_at (by_text spaces) ns v spread.named (sym (found ∙ lookup_text ns spaces))))

pub bindings_absent : (ns : List ℕ) (spaces : Spaces) → AreDistinct (by_text spaces) → None ≡ at_text ns spaces → bindings_of ns (in_all bindings_in (by_text spaces)) ≡ []
bindings_absent ns spaces spread none = bindings_there ns spaces spread ∙ ap (λ o. map (binding_at kind.RoleBinding ns) (in_one bindings_in o)) (sym none)

-- ---- roles

lookup_both : {X : Type 0} (p q : NamespacedName → Bool) (es : List (NamespacedName × X)) → lookup (λ k. p k && q k) es ≡ lookup q (filter (λ e. p e.0) es)
lookup_both p q [] = refl
lookup_both p q (e ∷ es) =
    elim (p e.0) as (λ b. cond (b && q e.0) (Some e.1) (lookup (λ k. p k && q k) es) ≡ lookup q (if b then e ∷ filter (λ e. p e.0) es else filter (λ e. p e.0) es)) [
      | true ↦ ap (λ o. cond (q e.0) (Some e.1) o) (lookup_both p q es)
      | false ↦ lookup_both p q es
    ]

lookup_placed : {X : Type 0} (ns name : List ℕ) (es : List (List ℕ × X)) → lookup (λ k. bytes_eq k.name name) (map (placed ns) es) ≡ lookup (is_at (name_cmp name)) es
lookup_placed ns name [] = refl
lookup_placed ns name (e ∷ es) = rw (turned e.0 name, is_eq-slice_cmp name e.0, lookup_placed ns name es) refl

roles_there : (ns name : List ℕ) (spaces : Spaces) → AreDistinct (by_text spaces)
    → lookup (is_place ns name) (in_all roles_in (by_text spaces)) ≡ lookup (is_at (name_cmp name)) (in_one roles_in (at_text ns spaces))
roles_there ns name spaces spread =
    lookup_both (is_in ns) (λ k. bytes_eq k.name name) (in_all roles_in (by_text spaces))
    ∙ ap (lookup (λ k. bytes_eq k.name name)) (in_space roles_in ns (by_text spaces) spread.sorted)
    ∙ lookup_placed ns name (in_one roles_in (lookup (is_at (name_cmp ns)) (by_text spaces)))
    ∙ ap (λ o. lookup (is_at (name_cmp name)) (in_one roles_in o)) (sym (lookup_text ns spaces))

pub role_found : (ns name : List ℕ) (spaces : Spaces) (v : Namespace) → AreDistinct (by_text spaces) → Some v ≡ at_text ns spaces
    → rules_in (lookup (is_at (name_cmp name)) v.roles.entries) ≡ rules_in (lookup (is_place ns name) (in_all roles_in (by_text spaces)))
role_found ns name spaces v spread found =
    ap rules_in (ap (λ o. lookup (is_at (name_cmp name)) (in_one roles_in o)) found ∙ sym (roles_there ns name spaces spread))

pub role_absent : (ns name : List ℕ) (spaces : Spaces) → AreDistinct (by_text spaces) → None ≡ at_text ns spaces
    → None ≡ rules_in (lookup (is_place ns name) (in_all roles_in (by_text spaces)))
role_absent ns name spaces spread none =
    ap rules_in (ap (λ o. lookup (is_at (name_cmp name)) (in_one roles_in o)) none ∙ sym (roles_there ns name spaces spread))

-- ---- cluster-wide bindings after a change

cluster_put : (es : List (List ℕ × RoleBinding)) (name : List ℕ) (b : RoleBinding)
    → map cluster_wide (insert_entry name_cmp es name b) ≡ insert_entry name_cmp (map cluster_wide es) name (record { subjects = b.subjects; role_ref = b.role_ref })
cluster_put [] name b = refl
cluster_put (e ∷ es) name b =
    elim (name_cmp name e.0) as (λ r. map cluster_wide (match_ordering r ((name, b) ∷ e ∷ es) ((e.0, b) ∷ es) (e ∷ insert_entry name_cmp es name b))
    ≡ match_ordering r (cluster_wide (name, b) ∷ cluster_wide e ∷ map cluster_wide es) (cluster_wide (e.0, b) ∷ map cluster_wide es)
    (cluster_wide e ∷ insert_entry name_cmp (map cluster_wide es) name (record { subjects = b.subjects; role_ref = b.role_ref }))) [
      | Less ↦ refl
      | Equal ↦ refl
      | Greater ↦ ap (λ l. cluster_wide e ∷ l) (cluster_put es name b)
    ]

cluster_taken : (test : List ℕ → Bool) (es : List (List ℕ × RoleBinding)) → map cluster_wide (remove_entry test es) ≡ remove_entry test (map cluster_wide es)
cluster_taken test [] = refl
cluster_taken test (e ∷ es) =
    elim (test e.0) as (λ t. map cluster_wide (cond t es (e ∷ remove_entry test es)) ≡ cond t (map cluster_wide es) (cluster_wide e ∷ remove_entry test (map cluster_wide es))) [
      | true ↦ refl
      | false ↦ ap (λ l. cluster_wide e ∷ l) (cluster_taken test es)
    ]

pub policy_put : (seen : PolicyObjects) (before : List (List ℕ × ClusterRoleBinding)) (s new : Scoped) (name : List ℕ) (subjects : List Subject) (role : RoleRef) (b : ClusterRoleBinding)
    → before ≡ map cluster_wide s.bindings → seen.cluster_role_bindings ≡ before → subjects ≡ b.subjects → role ≡ b.role_ref
    → new ≡ record s { bindings = insert_entry name_cmp s.bindings name (record { subjects = subjects; role_ref = role }) }
    → map cluster_wide new.bindings ≡ insert_entry name_cmp seen.cluster_role_bindings name b
policy_put seen before s new name subjects role b is same whose what done =
    ap (λ (x : Scoped). map cluster_wide x.bindings) done
    ∙ cluster_put s.bindings name (record { subjects = subjects; role_ref = role })
    ∙ ap (λ l. insert_entry name_cmp l name (record { subjects = subjects; role_ref = role })) (sym (same ∙ is))
    ∙ ap (λ l. insert_entry name_cmp seen.cluster_role_bindings name (record { subjects = l; role_ref = role })) whose
    ∙ ap (λ r. insert_entry name_cmp seen.cluster_role_bindings name (record { subjects = b.subjects; role_ref = r })) what

pub policy_taken : (seen : PolicyObjects) (s new : Scoped) (test : List ℕ → Bool) → seen.cluster_role_bindings ≡ map cluster_wide s.bindings
    → new ≡ record s { bindings = remove_entry test s.bindings } → map cluster_wide new.bindings ≡ remove_entry test seen.cluster_role_bindings
policy_taken seen s new test same done =
    ap (λ (x : Scoped). map cluster_wide x.bindings) done ∙ cluster_taken test s.bindings ∙ ap (remove_entry test) (sym same)

-- ---- a grant that was found, or none

pub none_granted : (o : Option Grant) (x : Option Granted) → is_some o ≡ false → granted_if o ≡ x → (r : Option Granted) → option_or x r ≡ r
none_granted None x none is r = ap (λ y. option_or y r) (sym is)
none_granted (Some g) x none is r = absurd cc

pub some_granted : (o : Option Grant) (x : Option Granted) → is_some o ≡ true → granted_if o ≡ x → (r : Option Granted) → option_or x r ≡ granted_if o
some_granted None x some is r = absurd cc
some_granted (Some g) x some is r = ap (λ y. option_or y r) (sym is)

pub seen_with : (o seen : PolicyObjects) (new l : List (List ℕ × ClusterRoleBinding)) → o ≡ seen → new ≡ l → record o { cluster_role_bindings = new } ≡ record seen { cluster_role_bindings = l }
seen_with o seen new l same is = ap (λ x. record o { cluster_role_bindings = x }) is ∙ ap (λ (p : PolicyObjects). record p { cluster_role_bindings = l }) same
