-- A step of the walk over the bindings that match an identity.
use Rattle.std.proofs.Common.{◌≡◌, ℕ, Bool, true, false, ◌&&◌, if◌then◌else◌, List, [], ◌∷◌, Option, Some, None, refl, sym, ap, subst, ◌∙◌}
use Rattle.std.specs.Borrow.{Bor}
use Rattle.std.specs.BTreeMap.{is_at}
use Rattle.std.specs.BTreeMap.Range.{is_from_start}
use Rattle.std.specs.BTreeSet.{BTreeSet}
use Rattle.std.specs.List.{AllByRecursion, filter, find, fold}
use Rattle.std.specs.List.Sorted.{IsStrictlySortedBy}
use Rattle.std.specs.Map.{keys_of, lookup}
use Rattle.std.specs.Option.{IfSome, MatchOption}
use Rattle.std.specs.declared.cmp.Ordering.{Ordering}
use Rattle.std.specs.declared.cmp.Ordering.TheVariants.{Less, Equal, Greater}
use Rattle.std.specs.declared.collections.Bound.{Bound as Start}
use Rattle.std.specs.declared.collections.Bound.TheVariants.{Excluded}
use Rattle.std.proofs.lemmas.Map.Lookups.{btree_set_from_contains, exact_bytes}
use Rattle.kapi_policy.specs.Objects.{name_cmp}
use Rattle.kapi_model.specs.declared.binding.RoleBinding.{RoleBinding}
use Rattle.kapi_model.specs.declared.identity.Identity.{Identity}
use Rattle.kapi_index.proofs.Changed.{Sets}
use Rattle.kapi_index.proofs.Finds.{Step, find_first, first_key, grouped, name_total, none_left, step}
use Rattle.kapi_index.proofs.Meant.{asked, asked_means, left_asked}
use Rattle.kapi_index.specs.Listed.{is_key, is_listed, names_at}
use Rattle.kapi_index.specs.Scopes.{ArePrepared, IsExact, IsIndex, IsPrepared, Scoped, bare, first_name, group_keys, keys_in, least, left, matches, named_now, user_keys, with_name}
use Rattle.kapi_index.specs.declared.scope.Bound.{Bound}

-- ---- the names under a key

module _ {X : Type 0} where
  all_filtered : (P : List ℕ → Type 0) (q : List ℕ × X → Bool) (es : List (List ℕ × X)) → AllByRecursion P (keys_of es) → AllByRecursion P (keys_of (filter q es))
  all_filtered P q [] all = tt
  all_filtered P q (e ∷ es) all =
      elim (q e) as (λ t. AllByRecursion P (keys_of (if t then e ∷ filter q es else filter q es))) [ true ↦ (all.0, all_filtered P q es all.1) | false ↦ all_filtered P q es all.1 ]

  sorted_filtered : (q : List ℕ × X → Bool) (es : List (List ℕ × X)) → IsStrictlySortedBy name_cmp (keys_of es) → IsStrictlySortedBy name_cmp (keys_of (filter q es))
  unfolding IsStrictlySortedBy
  sorted_filtered q [] sorted = tt
  sorted_filtered q (e ∷ es) sorted =
      elim (q e) as (λ t. IsStrictlySortedBy name_cmp (keys_of (if t then e ∷ filter q es else filter q es))) [
        | true ↦ (all_filtered (λ y. name_cmp e.0 y ≡ Less) q es sorted.0, sorted_filtered q es sorted.1)
        | false ↦ sorted_filtered q es sorted.1
      ]

  -- behind a name that is equal nothing is at it
  none_at : (n a : List ℕ) (es : List (List ℕ × X)) → AllByRecursion (λ y. name_cmp a y ≡ Less) (keys_of es) → name_cmp n a ≡ Equal → lookup (is_at (name_cmp n)) es ≡ None
  none_at n a [] all same = refl
  none_at n a (e ∷ es) all same = rw (name_total.congr n a e.0 same, all.0) (none_at n a es all.1 same)

  abbrev passes : (X → Bool) → Option X → Bool
  passes t None = false
  passes t (Some x) = t x

  in_filtered : (t : X → Bool) (n : List ℕ) (es : List (List ℕ × X)) → IsStrictlySortedBy name_cmp (keys_of es)
      → is_listed n (keys_of (filter (λ e. t e.1) es)) ≡ passes t (lookup (is_at (name_cmp n)) es)
  unfolding IsStrictlySortedBy
  in_filtered t n [] sorted = refl
  in_filtered t n (e ∷ es) sorted = by_order (name_cmp n e.0) (t e.1) refl refl (in_filtered t n es sorted.1)
    where
      by_order : (r : Ordering) (b : Bool) → name_cmp n e.0 ≡ r → t e.1 ≡ b → is_listed n (keys_of (filter (λ e. t e.1) es)) ≡ passes t (lookup (is_at (name_cmp n)) es)
          → is_listed n (keys_of (filter (λ e. t e.1) (e ∷ es))) ≡ passes t (lookup (is_at (name_cmp n)) (e ∷ es))
      by_order Equal true is k more = rw (k, is) (sym k)
      by_order Equal false is k more = rw (k, is) (more ∙ ap (passes t) (none_at n e.0 es sorted.0 is) ∙ sym k)
      by_order Less true is k more = rw (k, is) more
      by_order Less false is k more = rw (k, is) more
      by_order Greater true is k more = rw (k, is) more
      by_order Greater false is k more = rw (k, is) more

  at_either : (t : X → Bool) (f : Option X → Bool) → f None ≡ false → ((x : X) → f (Some x) ≡ t x) → (o : Option X) → f o ≡ passes t o
  at_either t f none some None = none
  at_either t f none some (Some x) = some x

set_of : List (List ℕ) → BTreeSet (List ℕ)
set_of names = record { keys = names }

-- the names under a key are those of the bindings that have it, in order
same_names : (g : Bound → List (List ℕ)) (es : List (List ℕ × Bound)) (sets : Sets) → IsStrictlySortedBy name_cmp (keys_of es) → IsIndex g es sets
    → (k : List ℕ) → names_at sets k ≡ keys_of (filter (λ e. is_key k (g e.1)) es)
unfolding set_of
same_names g es sets sorted index k =
    btree_set_from_contains name_total (set_of (names_at sets k)) (set_of (keys_of (filter (λ e. is_key k (g e.1)) es))) (index.ordered k) (sorted_filtered (λ e. is_key k (g e.1)) es sorted)
    (λ n. index.exact k n ∙ at_either (λ b. is_key k (g b)) (λ o. is_key k (keys_in g o)) refl (λ b. refl) (lookup (is_at (name_cmp n)) es)
    ∙ sym (in_filtered (λ b. is_key k (g b)) n es sorted))
    exact_bytes

-- the least name is that of the first binding whose keys are asked for
first_is : (namespace : List ℕ) (es : List (List ℕ × Bound)) (users groups : Sets) (identity : Identity) (start : Start (List ℕ)) → IsExact namespace es users groups
    → first_name users groups identity start ≡ first_key (λ e. is_from_start name_cmp start e.0 && asked identity e.1) es
first_is namespace es users groups identity start exact =
    ap (λ first. fold (λ found g. least found (find (is_from_start name_cmp start) (names_at groups g))) first identity.groups)
    (ap (find (is_from_start name_cmp start)) (same_names user_keys es users exact.sorted exact.by_user identity.user)
    ∙ find_first (is_from_start name_cmp start) (λ e. is_key identity.user e.1.keys.users) es)
    ∙ grouped (λ g. find (is_from_start name_cmp start) (names_at groups g)) (is_from_start name_cmp start) (λ g e. is_key g e.1.keys.groups) es exact.sorted
    (λ g. ap (find (is_from_start name_cmp start)) (same_names group_keys es groups exact.sorted exact.by_group g)
    ∙ find_first (is_from_start name_cmp start) (λ e. is_key g e.1.keys.groups) es)
    (λ e. is_key identity.user e.1.keys.users) identity.groups

-- ---- the step

module _ (namespace : List ℕ) (es : List (List ℕ × Bound)) (users groups : Sets) (identity : Identity) (start : Start (List ℕ)) (exact : IsExact namespace es users groups) where
  abbrev here : Scoped
  here = record { namespace = namespace; bindings = bare es }

  prepared_at : (k : List ℕ) (b : Bound) (es : List (List ℕ × Bound)) → ArePrepared namespace es → lookup (is_at (name_cmp k)) es ≡ Some b → IsPrepared namespace b
  prepared_at k b [] all h = absurd (let none : None ≡ Some b = h in cc none)
  prepared_at k b (e ∷ es) all h = by_test (is_at (name_cmp k) e.0) refl (prepared_at k b es all.1)
    where
      by_test : (t : Bool) → is_at (name_cmp k) e.0 ≡ t → (lookup (is_at (name_cmp k)) es ≡ Some b → IsPrepared namespace b) → IsPrepared namespace b
      by_test true is more = let same : Some e.1 ≡ Some b = rw is at h in let at : e.1 ≡ b = cc same in subst (IsPrepared namespace) at all.0
      by_test false is more = more (rw is at h)

  split_left : (k : List ℕ) (s : Step start (λ e. asked identity e.1) es k) → left identity start here ≡ (k, s.value.binding) ∷ left identity (Excluded k) here
  split_left k s =
      left_asked namespace identity start es exact.prepared ∙ ap bare s.split
      ∙ ap (λ l. (k, s.value.binding) ∷ l) (sym (left_asked namespace identity (Excluded k) es exact.prepared))

  some_step : (k : List ℕ) → Some k ≡ first_name users groups identity start → Step start (λ e. asked identity e.1) es k
  some_step k found = step start (λ e. asked identity e.1) es k exact.sorted (sym (found ∙ first_is namespace es users groups identity start exact))

  from_named : (k : List ℕ) (b : RoleBinding) (r : Option (Bor (List ℕ) × Bor RoleBinding)) → named_now r ≡ Some (k, b)
      → left identity start here ≡ (k, b) ∷ left identity (Excluded k) here
      → MatchOption r (left identity start here ≡ []) (λ p. left identity start here ≡ (p.0.now, p.1.now) ∷ left identity (Excluded p.0.now) here)
  from_named k b None is split = absurd (let none : None ≡ Some (k, b) = is in cc none)
  from_named k b (Some p) is split =
      let same : Some (p.0.now, p.1.now) ≡ Some (k, b) = is in
      let at : (p.0.now, p.1.now) ≡ (k, b) = cc same in
      split ∙ ap (λ (q : List ℕ × RoleBinding). q ∷ left identity (Excluded q.0) here) (sym at)

  from_meant : (k : List ℕ) (b : RoleBinding) (r : Option (Bor (List ℕ) × Bor RoleBinding)) → named_now r ≡ Some (k, b)
      → matches namespace identity b ≡ true → IfSome r (λ p. matches namespace identity p.1.now ≡ true)
  from_meant k b None is meant = tt
  from_meant k b (Some p) is meant =
      let same : Some (p.0.now, p.1.now) ≡ Some (k, b) = is in
      let at : (p.0.now, p.1.now) ≡ (k, b) = cc same in
      ap (λ (q : List ℕ × RoleBinding). matches namespace identity q.1) at ∙ meant

  named_is : (k : List ℕ) (r : Option (Bor (List ℕ) × Bor RoleBinding)) (s : Step start (λ e. asked identity e.1) es k)
      → named_now r ≡ with_name k (lookup (is_at (name_cmp k)) es) → named_now r ≡ Some (k, s.value.binding)
  named_is k r s named = named ∙ ap (with_name k) s.found

  pub steps_some : (seen : Scoped) → here ≡ seen → (k : List ℕ) (r : Option (Bor (List ℕ) × Bor RoleBinding)) → Some k ≡ first_name users groups identity start
      → named_now r ≡ with_name k (lookup (is_at (name_cmp k)) es)
      → MatchOption r (left identity start seen ≡ []) (λ p. left identity start seen ≡ (p.0.now, p.1.now) ∷ left identity (Excluded p.0.now) seen)
  steps_some seen same k r found named =
      let s = some_step k found in
      subst (λ x. MatchOption r (left identity start x ≡ []) (λ p. left identity start x ≡ (p.0.now, p.1.now) ∷ left identity (Excluded p.0.now) x)) same
      (from_named k s.value.binding r (named_is k r s named) (split_left k s))

  pub steps_meant : (seen : Scoped) → here ≡ seen → (k : List ℕ) (r : Option (Bor (List ℕ) × Bor RoleBinding)) → Some k ≡ first_name users groups identity start
      → named_now r ≡ with_name k (lookup (is_at (name_cmp k)) es) → IfSome r (λ p. matches seen.namespace identity p.1.now ≡ true)
  steps_meant seen same k r found named =
      let s = some_step k found in
      subst (λ x. IfSome r (λ p. matches x.namespace identity p.1.now ≡ true)) same
      (from_meant k s.value.binding r (named_is k r s named)
      (asked_means namespace identity s.value (prepared_at k s.value es exact.prepared s.found) ∙ s.passes))

  pub steps_none : (seen : Scoped) → here ≡ seen → None ≡ first_name users groups identity start → left identity start seen ≡ []
  steps_none seen same none =
      subst (λ x. left identity start x ≡ []) same
      (left_asked namespace identity start es exact.prepared
      ∙ ap bare (none_left (λ e. is_from_start name_cmp start e.0 && asked identity e.1) es (sym (none ∙ first_is namespace es users groups identity start exact))))
