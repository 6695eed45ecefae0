-- What the steps on slots make of the entries that are visible.
use Rattle.std.proofs.Common.{◌≡◌, suc, ◌+◌, ◌≤◌, Bool, true, false, not, cond, List, [], ◌∷◌, Option, None, Some, IsSome, length, refl, sym, ap, ◌∙◌, subst, arith}
use Rattle.std.specs.Option.{is_some}
use Rattle.std.specs.List.{filter, AllByRecursion}
use Rattle.std.specs.List.Sorted.{IsStrictlySortedBy}
use Rattle.std.specs.Ordering.{match_ordering, is_eq, ordering_reverse}
use Rattle.std.specs.declared.cmp.Ordering.{Ordering}
use Rattle.std.specs.declared.cmp.Ordering.TheVariants.{Less, Equal, Greater}
use Rattle.std.specs.Cmp.{eq_by_cmp_equiv}
use Rattle.std.specs.Map.{lookup, keys_of, remove_entry, set_value}
use Rattle.std.specs.BTreeMap.{insert_entry}
use Rattle.std.proofs.lemmas.List.Kept.{IsStrictlySortedBy-filter}
use Rattle.std.proofs.lemmas.Map.{lookup-none}
use Rattle.std.proofs.lemmas.Map.Keys.{sorted_head, sorted_tail, IsDistinct-from_sorted}
use Rattle.std.proofs.lemmas.Map.Entries.{lookup-filter-keys, none_past_head, none_below_head}
use Rattle.kapi_store.specs.declared.key.Key.{Key}
use Rattle.kapi_store.specs.Keys.{key_cmp, is_key}
use Rattle.kapi_store.specs.Private.Hidden.{hides, hidden_key, visible}
use Rattle.kapi_store.specs.declared.slots.Hidden.{Hidden}
use Rattle.kapi_store.proofs.Keys.{key_total, key_same}

-- what is its own reverse is Equal
pub own_reverse : (o : Ordering) → o ≡ ordering_reverse o → o ≡ Equal
own_reverse Less h = absurd (cc h)
own_reverse Equal h = refl
own_reverse Greater h = absurd (cc h)

-- a key is itself
pub own : (k : Key) → is_key k k ≡ true
own k = ap is_eq (own_reverse (key_cmp k k) (key_total.antisymm k k))

equal_if : (o : Ordering) → is_eq o ≡ true → o ≡ Equal
equal_if Less h = absurd (cc h)
equal_if Equal h = refl
equal_if Greater h = absurd (cc h)

-- a key that is this one is the same
pub same_key : (k l : Key) → is_key k l ≡ true → k ≡ l
same_key k l h = key_same k l (equal_if (key_cmp k l) h)

-- what hides a key has it
pub hidden_is : (hidden : Option Hidden) (k : Key) → hides hidden k ≡ true → hidden_key hidden ≡ Some k
hidden_is None k h = absurd (cc h)
hidden_is (Some l) k h = ap Some (same_key l.key k h)

-- what is not there is none
pub none_there : {X : Type 0} (o : Option X) → is_some o ≡ false → o ≡ None
none_there None h = refl
none_there (Some x) h = absurd (cc h)

pub some_injective : {X : Type 0} (x y : X) → Some x ≡ Some y → x ≡ y
some_injective x y h = cc h

module _ {K X : Type 0} where
  pub remove_absent : (test : K → Bool) (os : List (K × X)) → lookup test os ≡ None → remove_entry test os ≡ os
  remove_absent test [] h = refl
  remove_absent test (e ∷ es) h =
      elim (test e.0) as (λ b. cond b (Some e.1) (lookup test es) ≡ None → cond b es (e ∷ remove_entry test es) ≡ e ∷ es) [
        | true ↦ λ k. absurd (cc k)
        | false ↦ λ k. ap (λ os. e ∷ os) (remove_absent test es k)
      ] h

  -- the keys of the entries that pass a test of the keys
  keys_filter : (p : K → Bool) (es : List (K × X)) → keys_of (filter (λ e. p e.0) es) ≡ filter p (keys_of es)
  keys_filter p [] = refl
  keys_filter p (e ∷ es) =
      elim (p e.0) as (λ b. keys_of (cond b (e ∷ filter (λ e. p e.0) es) (filter (λ e. p e.0) es)) ≡ cond b (e.0 ∷ filter p (keys_of es)) (filter p (keys_of es))) [
        | true ↦ ap (λ ks. e.0 ∷ ks) (keys_filter p es)
        | false ↦ keys_filter p es
      ]

module _ {X : Type 0} where
  -- what is visible is in order
  pub visible_sorted : (hidden : Option Hidden) (es : List (Key × X)) → IsStrictlySortedBy key_cmp (keys_of es) → IsStrictlySortedBy key_cmp (keys_of (visible hidden es))
  unfolding visible
  visible_sorted hidden es h =
      let P : List Key → Type 0 = λ ks. IsStrictlySortedBy key_cmp ks in
      subst P (sym (keys_filter (λ k. not (hides hidden k)) es)) (IsStrictlySortedBy-filter key_cmp (λ k. not (hides hidden k)) (keys_of es) h)

  -- an entry is found, but for that of the hidden key
  pub lookup_visible : (hidden : Option Hidden) (k : Key) (es : List (Key × X)) → lookup (is_key k) (visible hidden es) ≡ cond (not (hides hidden k)) (lookup (is_key k) es) None
  unfolding visible
  lookup_visible hidden k es =
      lookup-filter-keys (is_key k) (λ l. not (hides hidden l)) (not (hides hidden k)) (λ l is. ap (λ q. not (hides hidden q)) (sym (same_key k l is))) es

  -- if a visible entry is, there is its slot, which is not hidden
  pub slot_there : (hidden : Option Hidden) (k : Key) (x : X) (es : List (Key × X)) → lookup (is_key k) (visible hidden es) ≡ Some x → IsSome (lookup (is_key k) es) × (hides hidden k ≡ false)
  slot_there hidden k x es is =
      elim (hides hidden k) as (λ b. cond (not b) (lookup (is_key k) es) None ≡ Some x → IsSome (lookup (is_key k) es) × (b ≡ false)) [
        | true ↦ λ e. absurd (cc e)
        | false ↦ λ e. (let P : Option X → Type 0 = λ o. IsSome o in subst P (sym e) refl, refl)
      ] (sym (lookup_visible hidden k es) ∙ is)

  -- if no slot is hidden, all are visible
  pub all_visible : (es : List (Key × X)) → visible None es ≡ es
  unfolding visible
  all_visible [] = refl
  all_visible (e ∷ es) = ap (λ os. e ∷ os) (all_visible es)

  -- if the hidden key has no slot, all are visible
  visible_absent : (h : Hidden) (es : List (Key × X)) → lookup (is_key h.key) es ≡ None → visible (Some h) es ≡ es
  unfolding visible
  visible_absent h [] none = refl
  visible_absent h (e ∷ es) none =
      elim (is_key h.key e.0) as (λ b. cond b (Some e.1) (lookup (is_key h.key) es) ≡ None → cond (not b) (e ∷ visible (Some h) es) (visible (Some h) es) ≡ e ∷ es) [
        | true ↦ λ n. absurd (cc n)
        | false ↦ λ n. ap (λ os. e ∷ os) (visible_absent h es n)
      ] none

  -- past the slot of a key there is no other
  past : (k : Key) (e : Key × X) (es : List (Key × X)) → IsStrictlySortedBy key_cmp (keys_of (e ∷ es)) → is_key k e.0 ≡ true → lookup (is_key k) es ≡ None
  past k e es h is = lookup-none (is_key k) es (none_past_head (eq_by_cmp_equiv key_total) k e es (IsDistinct-from_sorted key_cmp (keys_of (e ∷ es)) h) is)

  -- below the first slot there is none
  below : (k : Key) (e : Key × X) (es : List (Key × X)) → IsStrictlySortedBy key_cmp (keys_of (e ∷ es)) → key_cmp k e.0 ≡ Less → lookup (is_key k) es ≡ None
  below k e es h is = lookup-none (is_key k) es (none_below_head key_total k e es h is).1

  -- a key below all others goes to the front
  front : (k : Key) (x : X) (os : List (Key × X)) → AllByRecursion (λ y. key_cmp k y ≡ Less) (keys_of os) → insert_entry key_cmp os k x ≡ (k, x) ∷ os
  front k x [] h = refl
  front k x (e ∷ os) h = rw h.0 refl

  -- what is put beside others is found
  pub inserted_there : (k : Key) (x : X) (es : List (Key × X)) → lookup (is_key k) (insert_entry key_cmp es k x) ≡ Some x
  inserted_there k x [] = rw (own k) refl
  inserted_there k x (e ∷ es) =
      elim (key_cmp k e.0) as (λ o. key_cmp k e.0 ≡ o → lookup (is_key k) (match_ordering o ((k, x) ∷ e ∷ es) ((e.0, x) ∷ es) (e ∷ insert_entry key_cmp es k x)) ≡ Some x) [
        | Less ↦ λ is. rw (own k) refl
        | Equal ↦ λ is. rw is refl
        | Greater ↦ λ is. rw is (inserted_there k x es)
      ] refl

  -- a new slot that is hidden is not seen
  pub visible_made : (h : Hidden) (x : X) (es : List (Key × X)) → lookup (is_key h.key) es ≡ None → visible (Some h) (insert_entry key_cmp es h.key x) ≡ es
  unfolding visible
  visible_made h x [] none = rw (own h.key) refl
  visible_made h x (e ∷ es) none =
      elim (key_cmp h.key e.0) as (λ o. key_cmp h.key e.0 ≡ o → cond (is_eq o) (Some e.1) (lookup (is_key h.key) es) ≡ None
      → visible (Some h) (match_ordering o ((h.key, x) ∷ e ∷ es) ((e.0, x) ∷ es) (e ∷ insert_entry key_cmp es h.key x)) ≡ e ∷ es) [
        | Less ↦ λ is n. rw (own h.key) (visible_absent h (e ∷ es) none)
        | Equal ↦ λ is n. absurd (cc n)
        | Greater ↦ λ is n. rw is (ap (λ os. e ∷ os) (visible_made h x es n))
      ] refl none

  -- what is left without the hidden slot is what is visible
  pub visible_swept : (h : Hidden) (es : List (Key × X)) → IsStrictlySortedBy key_cmp (keys_of es) → remove_entry (is_key h.key) es ≡ visible (Some h) es
  unfolding visible
  visible_swept h [] sorted = refl
  visible_swept h (e ∷ es) sorted =
      elim (is_key h.key e.0) as (λ b. is_key h.key e.0 ≡ b → cond b es (e ∷ remove_entry (is_key h.key) es) ≡ cond (not b) (e ∷ visible (Some h) es) (visible (Some h) es)) [
        | true ↦ λ is. sym (visible_absent h es (past h.key e es sorted is))
        | false ↦ λ is. ap (λ os. e ∷ os) (visible_swept h es (sorted_tail key_cmp e.0 (keys_of es) sorted))
      ] refl

  -- a value that is set in the hidden slot, which is then shown, is put beside what was visible
  pub visible_shown : (h : Hidden) (x : X) (es : List (Key × X)) → IsStrictlySortedBy key_cmp (keys_of es) → IsSome (lookup (is_key h.key) es)
      → set_value (is_key h.key) es x ≡ insert_entry key_cmp (visible (Some h) es) h.key x
  unfolding visible
  visible_shown h x [] sorted some = absurd (cc some)
  visible_shown h x (e ∷ es) sorted some =
      elim (key_cmp h.key e.0) as (λ o. key_cmp h.key e.0 ≡ o → IsSome (cond (is_eq o) (Some e.1) (lookup (is_key h.key) es))
      → cond (is_eq o) ((e.0, x) ∷ es) (e ∷ set_value (is_key h.key) es x) ≡ insert_entry key_cmp (cond (not (is_eq o)) (e ∷ visible (Some h) es) (visible (Some h) es)) h.key x) [
        | Less ↦ λ less s. let P : Option X → Type 0 = λ o. IsSome o in absurd (cc (subst P (below h.key e es sorted less) s))
        | Equal ↦ λ equal s. let key : h.key ≡ e.0 = key_same h.key e.0 equal in
            let P : Key → Type 0 = λ l. AllByRecursion (λ y. key_cmp l y ≡ Less) (keys_of es) in
            ap (λ l. (l, x) ∷ es) (sym key)
            ∙ sym (front h.key x es (subst P (sym key) (sorted_head key_cmp e.0 (keys_of es) sorted)))
            ∙ ap (λ os. insert_entry key_cmp os h.key x) (sym (visible_absent h es (past h.key e es sorted (ap is_eq equal))))
        | Greater ↦ λ more s. rw more (ap (λ os. e ∷ os) (visible_shown h x es (sorted_tail key_cmp e.0 (keys_of es) sorted) s))
      ] refl some

  -- a value that is set at a visible key is set in what is visible
  pub visible_filled : (hidden : Option Hidden) (k : Key) (x : X) (es : List (Key × X)) → IsStrictlySortedBy key_cmp (keys_of es) → IsSome (lookup (is_key k) es) → hides hidden k ≡ false
      → visible hidden (set_value (is_key k) es x) ≡ insert_entry key_cmp (visible hidden es) k x
  unfolding visible
  visible_filled hidden k x [] h some shown = absurd (cc some)
  visible_filled hidden k x (e ∷ es) h some shown =
      elim (key_cmp k e.0) as (λ o. key_cmp k e.0 ≡ o → IsSome (cond (is_eq o) (Some e.1) (lookup (is_key k) es))
      → visible hidden (cond (is_eq o) ((e.0, x) ∷ es) (e ∷ set_value (is_key k) es x)) ≡ insert_entry key_cmp (cond (not (hides hidden e.0)) (e ∷ visible hidden es) (visible hidden es)) k x) [
        | Less ↦ λ is s. let P : Option X → Type 0 = λ o. IsSome o in absurd (cc (subst P (below k e es h is) s))
        | Equal ↦ λ is s. let seen : hides hidden e.0 ≡ false = ap (hides hidden) (sym (key_same k e.0 is)) ∙ shown in rw (seen, is) refl
        | Greater ↦ λ is s. elim (hides hidden e.0) as (λ b. cond (not b) (e ∷ visible hidden (set_value (is_key k) es x)) (visible hidden (set_value (is_key k) es x))
            ≡ insert_entry key_cmp (cond (not b) (e ∷ visible hidden es) (visible hidden es)) k x) [
              | true ↦ visible_filled hidden k x es (sorted_tail key_cmp e.0 (keys_of es) h) s shown
              | false ↦ rw is (ap (λ os. e ∷ os) (visible_filled hidden k x es (sorted_tail key_cmp e.0 (keys_of es) h) s shown))
            ]
      ] refl some

  -- a slot that is taken out is taken out of what is visible
  pub visible_removed : (hidden : Option Hidden) (k : Key) (es : List (Key × X)) → IsStrictlySortedBy key_cmp (keys_of es) → visible hidden (remove_entry (is_key k) es) ≡ remove_entry (is_key k) (visible hidden es)
  unfolding visible
  visible_removed hidden k [] h = refl
  visible_removed hidden k (e ∷ es) h =
      elim (is_key k e.0) as (λ b. is_key k e.0 ≡ b → visible hidden (cond b es (e ∷ remove_entry (is_key k) es)) ≡ remove_entry (is_key k) (cond (not (hides hidden e.0)) (e ∷ visible hidden es) (visible hidden es))) [
        | true ↦ λ is. elim (hides hidden e.0) as (λ b. visible hidden es ≡ remove_entry (is_key k) (cond (not b) (e ∷ visible hidden es) (visible hidden es))) [
          | true ↦ sym (remove_absent (is_key k) (visible hidden es) (lookup_visible hidden k es ∙ ap (λ o. cond (not (hides hidden k)) o None) (past k e es h is) ∙ both_none (not (hides hidden k))))
          | false ↦ rw is refl
        ]
        | false ↦ λ is. elim (hides hidden e.0) as (λ b. cond (not b) (e ∷ visible hidden (remove_entry (is_key k) es)) (visible hidden (remove_entry (is_key k) es)) ≡ remove_entry (is_key k) (cond (not b) (e ∷ visible hidden es) (visible hidden es))) [
          | true ↦ visible_removed hidden k es (sorted_tail key_cmp e.0 (keys_of es) h)
          | false ↦ rw is (ap (λ os. e ∷ os) (visible_removed hidden k es (sorted_tail key_cmp e.0 (keys_of es) h)))
        ]
      ] refl
    where
      none : Option X
      none = None

      both_none : (b : Bool) → cond b none none ≡ none
      both_none true = refl
      both_none false = refl

  -- at most one slot is hidden
  pub hidden_bound : (hidden : Option Hidden) (es : List (Key × X)) → IsStrictlySortedBy key_cmp (keys_of es) → length es ≤ length (visible hidden es) + 1
  unfolding visible
  hidden_bound None es h = let all : length (visible None es) ≡ length es = ap length (all_visible es) in omega arith
  hidden_bound (Some k) [] h = omega arith
  hidden_bound (Some k) (e ∷ es) h =
      elim (is_key k.key e.0) as (λ b. is_key k.key e.0 ≡ b → suc (length es) ≤ length (cond (not b) (e ∷ visible (Some k) es) (visible (Some k) es)) + 1) [
        | true ↦ λ is. let all : length (visible (Some k) es) ≡ length es = ap length (visible_absent k es (past k.key e es h is)) in omega arith
        | false ↦ λ is. let more : length es ≤ length (visible (Some k) es) + 1 = hidden_bound (Some k) es (sorted_tail key_cmp e.0 (keys_of es) h) in omega arith
      ] refl
