-- The order of keys.
use Rattle.std.proofs.Common.{◌≡◌, ℕ, Bool, true, false, cond, List, [], ◌∷◌, bytes_eq, refl, sym, ap, ◌∙◌, subst}
use Rattle.std.specs.List.{filter, AllByRecursion, IsDistinct}
use Rattle.std.specs.List.Sorted.{IsStrictlySortedBy}
use Rattle.std.specs.Map.{keys_of}
use Rattle.std.proofs.lemmas.Map.Keys.{IsDistinct-from_sorted}
use Rattle.std.specs.Ordering.{nat_cmp, is_eq, ordering_then}
use Rattle.std.specs.declared.cmp.Ordering.{Ordering}
use Rattle.std.specs.declared.cmp.Ordering.TheVariants.{Less, Equal, Greater}
use Rattle.std.specs.Cmp.{IsTotalOrder}
use Rattle.std.specs.Cmp.Lexicographic.{slice_cmp}
use Rattle.std.proofs.lemmas.Map.Text.{is_eq-slice_cmp}
use Rattle.std.proofs.lemmas.Slice.Eq.{bytes_eq-Decides}
use Rattle.kapi_store.specs.declared.key.Key.{Key}
use Rattle.kapi_store.specs.contracts.key.KeyOrd.TheImpl.Laws as laws
use Rattle.kapi_store.specs.Keys.{key_cmp, is_key}

-- keys are totally ordered
pub key_total : IsTotalOrder key_cmp
key_total = laws.total-law

-- texts that compare as equal are equal
bytes_same : (xs ys : List ℕ) → slice_cmp nat_cmp xs ys ≡ Equal → xs ≡ ys
bytes_same xs ys h = (bytes_eq-Decides xs ys).0 (sym (is_eq-slice_cmp xs ys) ∙ ap is_eq h)

-- texts decide if they differ; equal texts leave it to what follows
text_first : (xs ys : List ℕ) (o : Ordering) → ordering_then (slice_cmp nat_cmp xs ys) o ≡ cond (bytes_eq xs ys) o (slice_cmp nat_cmp xs ys)
text_first xs ys o = by_case (slice_cmp nat_cmp xs ys) ∙ ap (λ b. cond b o (slice_cmp nat_cmp xs ys)) (is_eq-slice_cmp xs ys)
  where
    by_case : (r : Ordering) → ordering_then r o ≡ cond (is_eq r) o r
    by_case Less = refl
    by_case Equal = refl
    by_case Greater = refl

-- the first texts that differ decide
pub key_by_texts : (a b : Key) → key_cmp a b
    ≡ cond (bytes_eq a.group b.group) (cond (bytes_eq a.resource b.resource) (cond (bytes_eq a.namespace b.namespace) (slice_cmp nat_cmp a.name b.name) (slice_cmp nat_cmp a.namespace b.namespace)) (slice_cmp nat_cmp a.resource b.resource)) (slice_cmp nat_cmp a.group b.group)
key_by_texts a b =
    rw (text_first a.group b.group _, text_first a.resource b.resource _, text_first a.namespace b.namespace _) refl

-- of two comparisons that are equal together, each is equal
both_equal : (a b : Ordering) → ordering_then a b ≡ Equal → (a ≡ Equal) × (b ≡ Equal)
both_equal Less b h = absurd (cc h)
both_equal Equal b h = (refl, h)
both_equal Greater b h = absurd (cc h)

-- keys that compare as equal are equal
pub key_same : (a b : Key) → key_cmp a b ≡ Equal → a ≡ b
key_same a b h =
    let group = both_equal (slice_cmp nat_cmp a.group b.group) _ h in
    let resource = both_equal (slice_cmp nat_cmp a.resource b.resource) _ group.1 in
    let namespace = both_equal (slice_cmp nat_cmp a.namespace b.namespace) _ resource.1 in
    λ i. record {
      group = bytes_same a.group b.group group.0 i;
      resource = bytes_same a.resource b.resource resource.0 i;
      namespace = bytes_same a.namespace b.namespace namespace.0 i;
      name = bytes_same a.name b.name namespace.1 i;
    }

module _ {X : Type 0} (p : Key × X → Bool) where
  filter_keys : (P : Key → Type 0) (es : List (Key × X)) → AllByRecursion P (keys_of es) → AllByRecursion P (keys_of (filter p es))
  filter_keys P [] h = tt
  filter_keys P (e ∷ es) h = elim (p e) as (λ b. AllByRecursion P (keys_of (cond b (e ∷ filter p es) (filter p es)))) [ true ↦ (h.0, filter_keys P es h.1) | false ↦ filter_keys P es h.1 ]

  -- some of the entries are in order too
  filter_sorted : (es : List (Key × X)) → IsStrictlySortedBy key_cmp (keys_of es) → IsStrictlySortedBy key_cmp (keys_of (filter p es))
  unfolding IsStrictlySortedBy
  filter_sorted [] h = tt
  filter_sorted (e ∷ es) h =
      elim (p e) as (λ b. IsStrictlySortedBy key_cmp (keys_of (cond b (e ∷ filter p es) (filter p es)))) [
        | true ↦ (filter_keys (λ y. key_cmp e.0 y ≡ Less) es h.0, filter_sorted es h.1)
        | false ↦ filter_sorted es h.1
      ]

  -- each key is once among keys in order
  pub filter_distinct : (es : List (Key × X)) → IsStrictlySortedBy key_cmp (keys_of es) → IsDistinct is_key (keys_of (filter p es))
  filter_distinct es h = IsDistinct-from_sorted key_cmp (keys_of (filter p es)) (filter_sorted es h)

-- a single key is there once
pub one_distinct : (ks : List Key) (k : Key) → ks ≡ k ∷ [] → IsDistinct is_key ks
unfolding IsStrictlySortedBy
one_distinct ks k is =
    let P : List Key → Type 0 = λ ks. IsDistinct is_key ks in
    let sorted : IsStrictlySortedBy key_cmp (k ∷ []) = (tt, tt) in subst P (sym is) (IsDistinct-from_sorted key_cmp (k ∷ []) sorted)

-- of two keys in order each is there once
pub two_distinct : (ks : List Key) (k l : Key) → ks ≡ k ∷ l ∷ [] → key_cmp k l ≡ Less → IsDistinct is_key ks
unfolding IsStrictlySortedBy
two_distinct ks k l is less =
    let P : List Key → Type 0 = λ ks. IsDistinct is_key ks in
    let sorted : IsStrictlySortedBy key_cmp (k ∷ l ∷ []) = ((less, tt), (tt, tt)) in subst P (sym is) (IsDistinct-from_sorted key_cmp (k ∷ l ∷ []) sorted)
