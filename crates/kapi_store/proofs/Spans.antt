-- The keys that may be listed lie between the first key and the end.
use Rattle.std.proofs.Common.{◌≡◌, ℕ, Bool, true, false, not, ◌&&◌, ◌||◌, cond, List, [], ◌∷◌, Option, refl, sym, ap, codes}
use Rattle.std.specs.List.{filter, list_any}
use Rattle.std.specs.Ordering.{nat_cmp, is_gt, is_le, ordering_then}
use Rattle.std.specs.declared.cmp.Ordering.TheVariants.{Less, Equal, Greater}
use Rattle.std.specs.declared.ops.Bound.TheVariants.{Included, Excluded}
use Rattle.std.specs.BTreeMap.Range.{range_contains, entries_between}
use Rattle.std.specs.Cmp.{first_so, second_so, nat_cmp_total}
use Rattle.std.specs.Cmp.Lexicographic.{slice_cmp}
use Rattle.std.specs.Str.{bytes_eq}
use Rattle.std.proofs.lemmas.Slice.Eq.{bytes_eq-Decides}
use Rattle.kapi_store.specs.Stored.{stored_tree}
use Rattle.kapi_model.specs.Selector.{matches}
use Rattle.kapi_object.specs.Tree.{in_metadata}
use Rattle.kapi_store.specs.declared.stored.StoredObject.{StoredObject}
use Rattle.kapi_model.specs.declared.row.ResourceRow.{ResourceRow}
use Rattle.kapi_model.specs.declared.selector.Selector.{Selector}
use Rattle.kapi_store.specs.declared.key.Key.{Key}
use Rattle.kapi_store.specs.declared.slots.Hidden.{Hidden}
use Rattle.kapi_store.specs.Keys.{key_cmp}
use Rattle.kapi_store.specs.Private.Hidden.{hides, visible}
use Rattle.kapi_store.proofs.SlotSteps.{own_reverse}
use Rattle.kapi_store.specs.Listing.{is_asked, is_within, is_listed, listed_objects}
use Rattle.kapi_store.specs.Private.Span.{after, first_key, end_key, is_of, namespace_start, namespace_end}

byte_same : (b : ℕ) → nat_cmp b b ≡ Equal
byte_same b = own_reverse (nat_cmp b b) (nat_cmp_total.antisymm b b)

same : (t : List ℕ) → slice_cmp nat_cmp t t ≡ Equal
same [] = refl
same (b ∷ bs) = rw (byte_same b) (same bs)

after_is_greater : (t : List ℕ) → slice_cmp nat_cmp (after t) t ≡ Greater
after_is_greater [] = refl
after_is_greater (b ∷ bs) = rw (byte_same b) (after_is_greater bs)

after_is_past : (t : List ℕ) → slice_cmp nat_cmp t (after t) ≡ Less
after_is_past [] = refl
after_is_past (b ∷ bs) = rw (byte_same b) (after_is_past bs)

-- nothing is below the empty text
empty_is_least : (t : List ℕ) → is_le (slice_cmp nat_cmp [] t) ≡ true
empty_is_least [] = refl
empty_is_least (b ∷ bs) = refl

empties_are_least : (s t : List ℕ) → is_le (ordering_then (slice_cmp nat_cmp [] s) (slice_cmp nat_cmp [] t)) ≡ true
empties_are_least [] t = empty_is_least t
empties_are_least (b ∷ bs) t = refl

alike : (s t : List ℕ) → bytes_eq s t ≡ true → s ≡ t
alike s t h = (bytes_eq-Decides s t).0 h

and_true : (a : Bool) → a ≡ true → (a && true) ≡ true
and_true a h = rw h refl

-- what a key within what is asked for is
within_parts : (row : ResourceRow) (namespace name : List ℕ) (k : Key) → is_within row namespace name k ≡ true
    → (k.group ≡ row.group) × (k.resource ≡ row.plural) × (is_asked namespace k.namespace ≡ true) × (is_asked name k.name ≡ true)
within_parts row namespace name k h =
    let names : Bool = is_asked namespace k.namespace && is_asked name k.name in
    let rest : (bytes_eq row.plural k.resource && names) ≡ true = second_so (bytes_eq row.group k.group) (bytes_eq row.plural k.resource && names) h in
    let both : names ≡ true = second_so (bytes_eq row.plural k.resource) names rest in (
      sym (alike row.group k.group (first_so (bytes_eq row.group k.group) (bytes_eq row.plural k.resource && names) h)),
      sym (alike row.plural k.resource (first_so (bytes_eq row.plural k.resource) names rest)),
      first_so (is_asked namespace k.namespace) (is_asked name k.name) both,
      second_so (is_asked namespace k.namespace) (is_asked name k.name) both,
    )

-- a key within what is asked for is neither before the first key nor past the end
pub within_is_between : (row : ResourceRow) (namespace name : List ℕ) (k : Key) → is_within row namespace name k ≡ true
    → range_contains key_cmp (Included (first_key row namespace name)) (Excluded (end_key row namespace name)) k ≡ true
unfolding first_key end_key
within_is_between row [] name k h =
    let is = within_parts row [] name k h in
    rw (is.0, is.1, same row.group, same row.plural, after_is_greater row.plural) (and_true (is_le (ordering_then (slice_cmp nat_cmp [] k.namespace) (slice_cmp nat_cmp [] k.name))) (empties_are_least k.namespace k.name))
within_is_between row (b ∷ bs) [] k h =
    let is = within_parts row (b ∷ bs) [] k h in
    let namespace : k.namespace ≡ b ∷ bs = sym (alike (b ∷ bs) k.namespace is.2) in
    rw (is.0, is.1, namespace, same row.group, same row.plural, same (b ∷ bs), after_is_greater (b ∷ bs)) (and_true (is_le (slice_cmp nat_cmp [] k.name)) (empty_is_least k.name))
within_is_between row (b ∷ bs) (c ∷ cs) k h =
    let is = within_parts row (b ∷ bs) (c ∷ cs) k h in
    let namespace : k.namespace ≡ b ∷ bs = sym (alike (b ∷ bs) k.namespace is.2) in
    let name : k.name ≡ c ∷ cs = sym (alike (c ∷ cs) k.name is.3) in
    rw (is.0, is.1, namespace, name, same row.group, same row.plural, same (b ∷ bs), same (c ∷ cs), after_is_greater (c ∷ cs)) refl

-- the first key is before the end
pub first_below_end : (row : ResourceRow) (namespace name : List ℕ) → is_gt (key_cmp (first_key row namespace name) (end_key row namespace name)) ≡ false
unfolding first_key end_key
first_below_end row [] name = rw (same row.group, after_is_past row.plural) refl
first_below_end row (b ∷ bs) [] = rw (same row.group, same row.plural, after_is_past (b ∷ bs)) refl
first_below_end row (b ∷ bs) (c ∷ cs) = rw (same row.group, same row.plural, same (b ∷ bs), after_is_past (c ∷ cs)) refl

-- a test that fails if another does
fails_too : (a b : Bool) → (a ≡ true → b ≡ true) → b ≡ false → a ≡ false
fails_too true b h k = absurd (cc (h refl, k))
fails_too false b h k = refl

module _ {K X : Type 0} (q r : K → Bool) (p : K × X → Bool) (in_range : (e : K × X) → p e ≡ true → r e.0 ≡ true) where
  abbrev seen : List (K × X) → List (K × X)
  seen es = filter (λ e. q e.0) es

  abbrev ranged : List (K × X) → List (K × X)
  ranged es = filter (λ e. r e.0) es

  -- to take out slots that are out of range leaves what passes a test of those in range
  pub visible_between : (es : List (K × X)) → filter p (filter (λ e. q e.0) (filter (λ e. r e.0) es)) ≡ filter p (filter (λ e. q e.0) es)
  visible_between [] = refl
  visible_between (e ∷ es) =
      elim (r e.0) as (λ b. r e.0 ≡ b → filter p (seen (cond b (e ∷ ranged es) (ranged es))) ≡ filter p (cond (q e.0) (e ∷ seen es) (seen es))) [
        | true ↦ λ is. elim (q e.0) as (λ b. filter p (cond b (e ∷ seen (ranged es)) (seen (ranged es))) ≡ filter p (cond b (e ∷ seen es) (seen es))) [
          | true ↦ ap (λ os. cond (p e) (e ∷ os) os) (visible_between es)
          | false ↦ visible_between es
        ]
        | false ↦ λ is. elim (q e.0) as (λ b. filter p (seen (ranged es)) ≡ filter p (cond b (e ∷ seen es) (seen es))) [
          | true ↦ rw (fails_too (p e) (r e.0) (in_range e) is) (visible_between es)
          | false ↦ visible_between es
        ]
      ] refl

  -- to take out slots out of range leaves each slot in range that passes a test
  pub any_between : (es : List (K × X)) → list_any p (filter (λ e. q e.0) (filter (λ e. r e.0) es)) ≡ list_any p (filter (λ e. q e.0) es)
  any_between [] = refl
  any_between (e ∷ es) =
      elim (r e.0) as (λ b. r e.0 ≡ b → list_any p (seen (cond b (e ∷ ranged es) (ranged es))) ≡ list_any p (cond (q e.0) (e ∷ seen es) (seen es))) [
        | true ↦ λ is. elim (q e.0) as (λ b. list_any p (cond b (e ∷ seen (ranged es)) (seen (ranged es))) ≡ list_any p (cond b (e ∷ seen es) (seen es))) [
          | true ↦ ap (λ b. p e || b) (any_between es)
          | false ↦ any_between es
        ]
        | false ↦ λ is. elim (q e.0) as (λ b. list_any p (seen (ranged es)) ≡ list_any p (cond b (e ∷ seen es) (seen es))) [
          | true ↦ rw (fails_too (p e) (r e.0) (in_range e) is) (any_between es)
          | false ↦ any_between es
        ]
      ] refl

-- what is listed lies in the range, so that nothing else need be read
pub listed_between : (row : ResourceRow) (namespace : List ℕ) (selector : Selector) (name : List ℕ) (hidden : Option Hidden) (es : List (Key × StoredObject))
    → listed_objects row namespace selector name (visible hidden (entries_between key_cmp (Included (first_key row namespace name)) (Excluded (end_key row namespace name)) es))
    ≡ listed_objects row namespace selector name (visible hidden es)
unfolding is_listed visible
listed_between row namespace selector name hidden es =
    visible_between (λ k. not (hides hidden k)) (range_contains key_cmp (Included (first_key row namespace name)) (Excluded (end_key row namespace name)))
    (λ e. is_listed row namespace selector name e.0 (stored_tree e.1))
    (λ e. λ h. within_is_between row namespace name e.0 (first_so (is_within row namespace name e.0) (matches selector (in_metadata (codes "labels") (stored_tree e.1))) h))
    es

-- the keys of the resource type in the namespace
of_parts : (row : ResourceRow) (namespace : List ℕ) (k : Key) → is_of row namespace k ≡ true → (k.group ≡ row.group) × (k.resource ≡ row.plural) × (k.namespace ≡ namespace)
of_parts row namespace k h =
    let names : Bool = bytes_eq row.plural k.resource && bytes_eq k.namespace namespace in
    let rest : names ≡ true = second_so (bytes_eq row.group k.group) names h in (
      sym (alike row.group k.group (first_so (bytes_eq row.group k.group) names h)),
      sym (alike row.plural k.resource (first_so (bytes_eq row.plural k.resource) (bytes_eq k.namespace namespace) rest)),
      alike k.namespace namespace (second_so (bytes_eq row.plural k.resource) (bytes_eq k.namespace namespace) rest),
    )

of_is_between : (row : ResourceRow) (namespace : List ℕ) (k : Key) → is_of row namespace k ≡ true
    → range_contains key_cmp (Included (namespace_start row namespace)) (Excluded (namespace_end row namespace)) k ≡ true
of_is_between row namespace k h =
    let is = of_parts row namespace k h in
    rw (is.0, is.1, is.2, same row.group, same row.plural, same namespace, after_is_greater namespace) (and_true (is_le (slice_cmp nat_cmp [] k.name)) (empty_is_least k.name))

-- the first key is before the end
pub start_below_end : (row : ResourceRow) (namespace : List ℕ) → is_gt (key_cmp (namespace_start row namespace) (namespace_end row namespace)) ≡ false
start_below_end row namespace = rw (same row.group, same row.plural, after_is_past namespace) refl

-- the keys of the namespace lie in the range
pub standing_between : (row : ResourceRow) (namespace : List ℕ) (hidden : Option Hidden) (es : List (Key × StoredObject))
    → list_any (λ e. is_of row namespace e.0) (visible hidden (entries_between key_cmp (Included (namespace_start row namespace)) (Excluded (namespace_end row namespace)) es))
    ≡ list_any (λ e. is_of row namespace e.0) (visible hidden es)
unfolding visible
standing_between row namespace hidden es =
    any_between (λ k. not (hides hidden k)) (range_contains key_cmp (Included (namespace_start row namespace)) (Excluded (namespace_end row namespace)))
    (λ e. is_of row namespace e.0) (λ e. λ h. of_is_between row namespace e.0 h) es
