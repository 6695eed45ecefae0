-- The roles and bindings that are printed allow what the suggested rules do.
use Rattle.std.proofs.Common.{◌≡◌, inl, inr, ℕ, ◌+◌, ◌<◌, ◌≤◌, ◌^◌, Bool, true, false, cond, not, ◌&&◌, ◌||◌, ◌==◌, if◌then◌else◌, List, [], ◌∷◌, ◌++◌, length, map, Option, Some, None, codes, decimal, refl, sym, ap, subst, ◌∙◌, arith}
use Rattle.std.proofs.Math.Dec.{eqb-suc-zero}
use Rattle.std.proofs.lemmas.Bool.{and_parts}
use Rattle.std.proofs.lemmas.Fmt.{decimal_injective}
use Rattle.std.proofs.lemmas.List.Folds.{list_any-append}
use Rattle.std.specs.List.{enumerate_from, filter, list_any}
use Rattle.std.specs.Map.{lookup}
use Rattle.std.specs.Option.{unwrap_or}
use Rattle.std.specs.Str.{bytes_eq}
use Rattle.kapi_text.proofs.Booleans.{or_false, turned}
use Rattle.kapi_model.specs.Identities.{is_master}
use Rattle.kapi_model.specs.declared.identity.Identity.{Identity}
use Rattle.kapi_model.specs.declared.policy_rule.PolicyRule.{PolicyRule}
use Rattle.kapi_rules.proofs.Covers.{itself, same}
use Rattle.kapi_rules.proofs.Parts.{any_flat_map, any_map}
use Rattle.kapi_rules.specs.Rules.{allows}
use Rattle.kapi_rules.specs.declared.point.Point.{Point}
use Rattle.kapi_policy.proofs.Decisions.{allowed_where_held}
use Rattle.kapi_policy.specs.Decided.{Binding, bindings_in, bindings_of, cluster_binding, cluster_rules_in, given, held, is_in, is_place, namespace_binding, rules_in, rules_of}
use Rattle.kapi_policy.specs.Objects.{PolicyObjects}
use Rattle.kapi_aggregation.proofs.Lists.{filter_mapped, filter_twice}
use Rattle.kapi_aggregation.specs.Members.{Has}
use Rattle.kapi_escalation_laws.specs.Access.{may}
use Rattle.kapi_suggest.specs.Needs.{allows_by}
use Rattle.kapi_suggest.specs.Policies.{binding_of, cluster_binding_of, cluster_role_of, is_local, is_wide, place_of, policy_of, role_of}
use Rattle.kapi_suggest.specs.Printed.{name_of, role_ref_for}
use Rattle.kapi_suggest.specs.declared.suggested.Suggested.{Suggested}

-- ---- numbers and names

numbered_within : (k : ℕ) (list : List Suggested) (m : ℕ × Suggested) → Has (enumerate_from k list) m → (k ≤ m.0) × (m.0 < k + length list)
numbered_within k [] m has = absurd has
numbered_within k (s ∷ list) m (inl is) =
    let e : k ≡ m.0 = ap (λ (n : ℕ × Suggested). n.0) is in (omega (arith, e), omega (arith, e))
numbered_within k (s ∷ list) m (inr has) =
    let rest = numbered_within (k + 1) list m has in (omega (arith, rest.0), omega (arith, rest.1))

after : (xs ys zs : List ℕ) → xs ++ ys ≡ xs ++ zs → ys ≡ zs
after [] ys zs h = h
after (x ∷ xs) ys zs h = after xs ys zs (cc h)

name_same : (m n : ℕ) → m < 2 ^ 64 → n < 2 ^ 64 → name_of m ≡ name_of n → m ≡ n
name_same m n hm hn h = decimal_injective m n hm hn (after (codes "suggested-") (decimal m) (decimal n) h)

-- ---- what is found by its name

module _ {K V : Type 0} (key : ℕ × Suggested → K) (value : ℕ × Suggested → V) (kept : ℕ × Suggested → Bool) (test : ℕ × Suggested → K → Bool)
    (own : (m : ℕ × Suggested) → test m (key m) ≡ true) (apart : (m n : ℕ × Suggested) → test m (key n) ≡ true → name_of m.0 ≡ name_of n.0) where
  looked_up : (k : ℕ) (list : List Suggested) → k + length list < 2 ^ 64 → (m : ℕ × Suggested) → Has (enumerate_from k list) m → kept m ≡ true
      → lookup (test m) (map (λ n. (key n, value n)) (filter kept (enumerate_from k list))) ≡ Some (value m)
  looked_up k [] small m has is = absurd has
  looked_up k (s ∷ list) small m (inl here) is =
      let P : ℕ × Suggested → Type 0 = λ n. lookup (test m) (map (λ n. (key n, value n)) (cond (kept n) (n ∷ filter kept (enumerate_from (k + 1) list)) (filter kept (enumerate_from (k + 1) list)))) ≡ Some (value m) in
      subst P (sym here) (rw (is, own m) refl)
  looked_up k (s ∷ list) small m (inr has) is = by_kept (kept (k, s)) (looked_up (k + 1) list (omega (arith, small)) m has is)
    where
      rest : List (K × V)
      rest = map (λ n. (key n, value n)) (filter kept (enumerate_from (k + 1) list))

      other : (t : Bool) → test m (key (k, s)) ≡ t → lookup (test m) (map (λ n. (key n, value n)) (filter kept (enumerate_from (k + 1) list))) ≡ Some (value m)
          → cond t (Some (value (k, s))) (lookup (test m) (map (λ n. (key n, value n)) (filter kept (enumerate_from (k + 1) list)))) ≡ Some (value m)
      other true same_key more =
          let within = numbered_within (k + 1) list m has in
          let e : m.0 ≡ k = name_same m.0 k (omega (arith, within.1, small)) (omega (arith, small)) (apart m (k, s) same_key) in
          absurd (omega (arith, within.0, e))
      other false no_key more = more

      by_kept : (c : Bool) → lookup (test m) (map (λ n. (key n, value n)) (filter kept (enumerate_from (k + 1) list))) ≡ Some (value m)
          → lookup (test m) (map (λ n. (key n, value n)) (cond c ((k, s) ∷ filter kept (enumerate_from (k + 1) list)) (filter kept (enumerate_from (k + 1) list)))) ≡ Some (value m)
      by_kept true more = other (test m (key (k, s))) refl more
      by_kept false more = more

-- ---- some element of a list that is filtered

any_kept : {X Y : Type 0} (q : Y → Bool) (g : X → Y) (kept r : X → Bool) (xs : List X) → ((x : X) → Has xs x → kept x ≡ true → q (g x) ≡ r x)
    → list_any q (map g (filter kept xs)) ≡ list_any (λ x. kept x && r x) xs
any_kept q g kept r [] same = refl
any_kept q g kept r (x ∷ xs) same = by_kept (kept x) refl (any_kept q g kept r xs (λ y has. same y (inr has)))
  where
    by_kept : (c : Bool) → kept x ≡ c → list_any q (map g (filter kept xs)) ≡ list_any (λ x. kept x && r x) xs
        → list_any q (map g (cond c (x ∷ filter kept xs) (filter kept xs))) ≡ ((c && r x) || list_any (λ x. kept x && r x) xs)
    by_kept true is more = rw (same x (inl refl) is) (ap (λ t. r x || t) more)
    by_kept false is more = more

pub any_both : {X : Type 0} (p q r : X → Bool) (xs : List X) → ((x : X) → (p x || q x) ≡ r x) → (list_any p xs || list_any q xs) ≡ list_any r xs
any_both p q r [] same = refl
any_both p q r (x ∷ xs) same = across (p x) (list_any p xs) (q x) (list_any q xs) ∙ rw (same x, any_both p q r xs same) refl
  where
    across : (a b c d : Bool) → ((a || b) || (c || d)) ≡ ((a || c) || (b || d))
    across true b c d = refl
    across false true true d = refl
    across false true false d = refl
    across false false c d = refl

any_numbered : (q : Suggested → Bool) (k : ℕ) (list : List Suggested) → list_any (λ (n : ℕ × Suggested). q n.1) (enumerate_from k list) ≡ list_any q list
any_numbered q k [] = refl
any_numbered q k (s ∷ list) = ap (λ t. q s || t) (any_numbered q (k + 1) list)

-- ---- the law

module _ (list : List Suggested) (small : 1 + length list < 2 ^ 64) (identity : Identity) (namespace : List ℕ) (p : Point) where
  abbrev all : List (ℕ × Suggested)
  all = enumerate_from 1 list

  abbrev objects : PolicyObjects
  objects = policy_of all

  abbrev test : PolicyRule → Bool
  test rule = allows rule p

  -- the user is the suggestion's, and a rule allows the request
  abbrev serves : ℕ × Suggested → Bool
  serves n = bytes_eq n.1.at.user identity.user && list_any test n.1.rules

  abbrev by : Binding → Bool
  by b = list_any test (unwrap_or (given objects identity b) [])

  by_user : (a u : List ℕ) (o : Option (List PolicyRule)) (rules : List PolicyRule) → o ≡ Some rules
      → list_any test (unwrap_or (if bytes_eq a u || false then o else None) []) ≡ (bytes_eq u a && list_any test rules)
  by_user a u o rules is = rw (or_false (bytes_eq a u), turned u a, is) (by_case (bytes_eq a u))
    where
      by_case : (c : Bool) → list_any test (unwrap_or (if c then Some rules else None) []) ≡ (c && list_any test rules)
      by_case true = refl
      by_case false = refl

  wide_role : (n : ℕ × Suggested) → Has all n → is_wide n ≡ true → rules_of objects (role_ref_for (name_of n.0) n.1) [] ≡ Some n.1.rules
  unfolding rules_of policy_of
  wide_role n has wide =
      rw wide (ap cluster_rules_in (looked_up (λ n. name_of n.0) (λ n. (cluster_role_of n).1) is_wide (λ m key. bytes_eq (name_of m.0) key)
      (λ m. itself (name_of m.0)) (λ m n is. same (name_of m.0) (name_of n.0) is) 1 list small n has wide))

  local_role : (n : ℕ × Suggested) → Has all n → is_wide n ≡ false → rules_of objects (role_ref_for (name_of n.0) n.1) n.1.at.namespace ≡ Some n.1.rules
  unfolding rules_of policy_of
  local_role n has local =
      rw local (rw local (ap rules_in (looked_up place_of (λ n. (role_of n).1) is_local (λ m key. is_place m.1.at.namespace (name_of m.0) key)
      (λ m. rw (itself m.1.at.namespace) (itself (name_of m.0)))
      (λ m n is. sym (same (name_of n.0) (name_of m.0) (and_parts (bytes_eq n.1.at.namespace m.1.at.namespace) _ is).1)) 1 list small n has (ap not local))))

  wide_serves : (n : ℕ × Suggested) → Has all n → is_wide n ≡ true → by (cluster_binding (cluster_binding_of n)) ≡ serves n
  unfolding given
  wide_serves n has wide = by_user identity.user n.1.at.user _ n.1.rules (wide_role n has wide)

  local_serves : (n : ℕ × Suggested) → Has all n → (is_local n && bytes_eq n.1.at.namespace namespace) ≡ true → by (namespace_binding (binding_of n)) ≡ serves n
  unfolding given
  local_serves n has is = by_user identity.user n.1.at.user _ n.1.rules (local_role n has (no_wide (is_wide n) (and_parts (is_local n) _ is).0))
    where
      no_wide : (c : Bool) → not c ≡ true → c ≡ false
      no_wide true h = absurd (cc h)
      no_wide false h = refl

  some_wide : list_any by (map cluster_binding objects.cluster_role_bindings) ≡ list_any (λ n. is_wide n && serves n) all
  unfolding policy_of
  some_wide =
      any_map by cluster_binding (map cluster_binding_of (filter is_wide all))
      ∙ any_kept (λ e. by (cluster_binding e)) cluster_binding_of is_wide serves all wide_serves

  some_local : list_any by (bindings_of namespace objects.role_bindings) ≡ list_any (λ n. (is_local n && bytes_eq n.1.at.namespace namespace) && serves n) all
  unfolding policy_of
  some_local =
      ap (λ es. list_any by (map namespace_binding es))
      (filter_mapped binding_of (λ e. is_in namespace e.0) (filter is_local all)
      ∙ ap (map binding_of) (filter_twice (λ n. bytes_eq n.1.at.namespace namespace) is_local all))
      ∙ any_map by namespace_binding (map binding_of (filter (λ n. is_local n && bytes_eq n.1.at.namespace namespace) all))
      ∙ any_kept (λ e. by (namespace_binding e)) binding_of (λ n. is_local n && bytes_eq n.1.at.namespace namespace) serves all local_serves

  counted : (n : ℕ × Suggested) → ((is_wide n && serves n) || ((is_local n && bytes_eq n.1.at.namespace namespace) && serves n)) ≡ allows_by identity namespace p n.1
  counted n = by_cases (is_wide n) (bytes_eq n.1.at.namespace namespace) (bytes_eq n.1.at.user identity.user) (list_any test n.1.rules)
    where
      by_cases : (w e u r : Bool) → ((w && (u && r)) || ((not w && e) && (u && r))) ≡ (u && ((w || e) && r))
      by_cases true e true r = or_false r
      by_cases true e false r = refl
      by_cases false true true r = refl
      by_cases false true false r = refl
      by_cases false false true r = refl
      by_cases false false false r = refl

  -- cluster-wide no namespace counts
  none_local : (n : ℕ × Suggested) → namespace ≡ [] → ((is_local n && bytes_eq n.1.at.namespace namespace) && serves n) ≡ false
  none_local n none = rw none (by_text n.1.at.namespace (serves n))
    where
      by_text : (text : List ℕ) (s : Bool) → ((not (length text == 0) && bytes_eq text []) && s) ≡ false
      by_text [] s = refl
      by_text (c ∷ text) s = elim (length (c ∷ text) == 0) as (λ b. ((not b && false) && s) ≡ false) [ true ↦ refl | false ↦ refl ]

  any_none : (q : ℕ × Suggested → Bool) (xs : List (ℕ × Suggested)) → ((n : ℕ × Suggested) → q n ≡ false) → list_any q xs ≡ false
  any_none q [] none = refl
  any_none q (x ∷ xs) none = rw (none x) (any_none q xs none)

  there : (c : Bool) → (length namespace == 0) ≡ c
      → list_any by (if c then [] else bindings_of namespace objects.role_bindings) ≡ list_any (λ n. (is_local n && bytes_eq n.1.at.namespace namespace) && serves n) all
  there true is = sym (any_none _ all (λ n. none_local n (empty namespace is)))
    where
      empty : (text : List ℕ) → (length text == 0) ≡ true → text ≡ []
      empty [] h = refl
      empty (c ∷ text) h = absurd (let never = rw (eqb-suc-zero (length text)) at h in cc)
  there false is = some_local

  some_binding : list_any by (bindings_in objects namespace) ≡ list_any (allows_by identity namespace p) list
  unfolding bindings_in
  some_binding =
      list_any-append by (map cluster_binding objects.cluster_role_bindings) (if length namespace == 0 then [] else bindings_of namespace objects.role_bindings)
      ∙ ap (λ t. t || list_any by (if length namespace == 0 then [] else bindings_of namespace objects.role_bindings)) some_wide
      ∙ ap (λ t. list_any (λ n. is_wide n && serves n) all || t) (there (length namespace == 0) refl)
      ∙ any_both _ _ (λ n. allows_by identity namespace p n.1) all counted
      ∙ any_numbered (allows_by identity namespace p) 1 list

  pub bound : may objects identity namespace p ≡ (is_master identity || list_any (allows_by identity namespace p) list)
  unfolding held
  bound =
      allowed_where_held objects identity namespace p
      ∙ ap (λ t. is_master identity || t)
      (any_flat_map test (λ b. unwrap_or (given objects identity b) []) (bindings_in objects namespace) ∙ some_binding)
