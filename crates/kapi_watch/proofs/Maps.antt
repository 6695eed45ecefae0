-- Maps in the order of their keys, and some of their entries, after a write.
use Rattle.std.proofs.Common.{◌≡◌, Bool, true, false, cond, List, [], ◌∷◌, ◌++◌, None, Some, refl, sym, ap, ◌∙◌, subst}
use Rattle.std.specs.Ordering.{match_ordering, is_eq, ordering_reverse}
use Rattle.std.specs.declared.cmp.Ordering.{Ordering}
use Rattle.std.specs.declared.cmp.Ordering.TheVariants.{Less, Equal, Greater}
use Rattle.std.specs.Cmp.{IsTotalOrder}
use Rattle.std.specs.List.{AllByRecursion, filter}
use Rattle.std.specs.List.Sorted.{IsStrictlySortedBy}
use Rattle.std.specs.Map.{lookup, keys_of, remove_entry}
use Rattle.std.specs.BTreeMap.{insert_entry, is_at}
use Rattle.kapi_store.proofs.SlotSteps.{remove_absent}

reverse_apart : (o : Ordering) → is_eq o ≡ false → is_eq (ordering_reverse o) ≡ false
reverse_apart Less h = refl
reverse_apart Equal h = h
reverse_apart Greater h = refl

-- what is below a key is below all that are above it
above : {K : Type 0} (cmp : K → K → Ordering) → IsTotalOrder cmp → (k l : K) (ks : List K) → cmp k l ≡ Less → AllByRecursion (λ y. cmp l y ≡ Less) ks → AllByRecursion (λ y. cmp k y ≡ Less) ks
above cmp total k l [] lt h = tt
above cmp total k l (j ∷ js) lt h = (total.trans k l j lt h.0, above cmp total k l js lt h.1)

module _ {K X : Type 0} where
  -- what holds of all keys holds of those of some entries, and of what is left by a removal
  filter_keys : (p : K × X → Bool) (P : K → Type 0) (es : List (K × X)) → AllByRecursion P (keys_of es) → AllByRecursion P (keys_of (filter p es))
  filter_keys p P [] h = tt
  filter_keys p P (e ∷ es) h =
      elim (p e) as (λ b. AllByRecursion P (keys_of (cond b (e ∷ filter p es) (filter p es)))) [ true ↦ (h.0, filter_keys p P es h.1) | false ↦ filter_keys p P es h.1 ]

  remove_keys : (test : K → Bool) (P : K → Type 0) (es : List (K × X)) → AllByRecursion P (keys_of es) → AllByRecursion P (keys_of (remove_entry test es))
  remove_keys test P [] h = tt
  remove_keys test P (e ∷ es) h =
      elim (test e.0) as (λ b. AllByRecursion P (keys_of (cond b es (e ∷ remove_entry test es)))) [ true ↦ h.1 | false ↦ (h.0, remove_keys test P es h.1) ]

  -- what holds of all keys holds of one in the midst
  at_mid : (P : K → Type 0) (es : List (K × X)) (e : K × X) (fs : List (K × X)) → AllByRecursion P (keys_of (es ++ e ∷ fs)) → P e.0
  at_mid P [] e fs h = h.0
  at_mid P (d ∷ es) e fs h = at_mid P es e fs h.1

  module _ (cmp : K → K → Ordering) where
    insert_keys : (P : K → Type 0) (k : K) (x : X) (es : List (K × X)) → P k → AllByRecursion P (keys_of es) → AllByRecursion P (keys_of (insert_entry cmp es k x))
    insert_keys P k x [] this h = (this, tt)
    insert_keys P k x (e ∷ es) this h =
        elim (cmp k e.0) as (λ o. AllByRecursion P (keys_of (match_ordering o ((k, x) ∷ e ∷ es) ((e.0, x) ∷ es) (e ∷ insert_entry cmp es k x)))) [
          | Less ↦ (this, h)
          | Equal ↦ h
          | Greater ↦ (h.0, insert_keys P k x es this h.1)
        ]

    -- a key below all the others goes to the front, and is none of them
    front : (k : K) (x : X) (es : List (K × X)) → AllByRecursion (λ y. cmp k y ≡ Less) (keys_of es) → insert_entry cmp es k x ≡ (k, x) ∷ es
    front k x [] h = refl
    front k x (e ∷ es) h = rw h.0 refl

    none_below : (k : K) (es : List (K × X)) → AllByRecursion (λ y. cmp k y ≡ Less) (keys_of es) → lookup (is_at (cmp k)) es ≡ None
    none_below k [] h = refl
    none_below k (e ∷ es) h = rw h.0 (none_below k es h.1)

    -- a key above all the others goes to the end
    pub last_in : (k : K) (x : X) (es : List (K × X)) → AllByRecursion (λ y. cmp k y ≡ Greater) (keys_of es) → insert_entry cmp es k x ≡ es ++ (k, x) ∷ []
    last_in k x [] h = refl
    last_in k x (e ∷ es) h = rw h.0 (ap (λ l. e ∷ l) (last_in k x es h.1))

    at_equal : (k : K) (x : X) (e : K × X) (es : List (K × X)) → cmp k e.0 ≡ Equal → insert_entry cmp (e ∷ es) k x ≡ (e.0, x) ∷ es
    at_equal k x e es is = rw is refl

    at_greater : (k : K) (x : X) (e : K × X) (es : List (K × X)) → cmp k e.0 ≡ Greater → insert_entry cmp (e ∷ es) k x ≡ e ∷ insert_entry cmp es k x
    at_greater k x e es is = rw is refl

    gone_here : (k : K) (e : K × X) (es : List (K × X)) → cmp k e.0 ≡ Equal → remove_entry (is_at (cmp k)) (e ∷ es) ≡ es
    gone_here k e es is = rw is refl

    gone_later : (k : K) (e : K × X) (es : List (K × X)) → is_eq (cmp k e.0) ≡ false → remove_entry (is_at (cmp k)) (e ∷ es) ≡ e ∷ remove_entry (is_at (cmp k)) es
    gone_later k e es is = rw is refl

    found_later : (k : K) (e : K × X) (es : List (K × X)) → is_eq (cmp k e.0) ≡ false → lookup (is_at (cmp k)) (e ∷ es) ≡ lookup (is_at (cmp k)) es
    found_later k e es is = rw is refl

  module _ (cmp : K → K → Ordering) (total : IsTotalOrder cmp) (same : (a b : K) → cmp a b ≡ Equal → a ≡ b) where
    -- a key below the first key is below all; one equal to the first is below the others
    below_all : (k : K) (e : K × X) (es : List (K × X)) → IsStrictlySortedBy cmp (keys_of (e ∷ es)) → cmp k e.0 ≡ Less → AllByRecursion (λ y. cmp k y ≡ Less) (keys_of (e ∷ es))
    unfolding IsStrictlySortedBy
    below_all k e es s lt = (lt, above cmp total k e.0 (keys_of es) lt s.0)

    below_rest : (k : K) (e : K × X) (es : List (K × X)) → IsStrictlySortedBy cmp (keys_of (e ∷ es)) → cmp k e.0 ≡ Equal → AllByRecursion (λ y. cmp k y ≡ Less) (keys_of es)
    unfolding IsStrictlySortedBy
    below_rest k e es s is = let P : K → Type 0 = λ j. AllByRecursion (λ y. cmp j y ≡ Less) (keys_of es) in subst P (sym (same k e.0 is)) s.0

    -- a key in the midst is above those before it
    pub above_front : (es : List (K × X)) (e : K × X) (fs : List (K × X)) → IsStrictlySortedBy cmp (keys_of (es ++ e ∷ fs)) → AllByRecursion (λ y. cmp e.0 y ≡ Greater) (keys_of es)
    unfolding IsStrictlySortedBy
    above_front [] e fs s = tt
    above_front (d ∷ es) e fs s = (total.antisymm e.0 d.0 ∙ ap ordering_reverse (at_mid (λ y. cmp d.0 y ≡ Less) es e fs s.0), above_front es e fs s.1)

    -- a write leaves the keys in order
    pub insert_sorted : (k : K) (x : X) (es : List (K × X)) → IsStrictlySortedBy cmp (keys_of es) → IsStrictlySortedBy cmp (keys_of (insert_entry cmp es k x))
    unfolding IsStrictlySortedBy
    insert_sorted k x [] s = (tt, tt)
    insert_sorted k x (e ∷ es) s =
        elim (cmp k e.0) as (λ o. cmp k e.0 ≡ o → IsStrictlySortedBy cmp (keys_of (match_ordering o ((k, x) ∷ e ∷ es) ((e.0, x) ∷ es) (e ∷ insert_entry cmp es k x)))) [
          | Less ↦ λ is. (below_all k e es s is, s)
          | Equal ↦ λ is. s
          | Greater ↦ λ is. (insert_keys cmp (λ y. cmp e.0 y ≡ Less) k x es (total.antisymm e.0 k ∙ ap ordering_reverse is) s.0, insert_sorted k x es s.1)
        ] refl

    pub remove_sorted : (test : K → Bool) (es : List (K × X)) → IsStrictlySortedBy cmp (keys_of es) → IsStrictlySortedBy cmp (keys_of (remove_entry test es))
    unfolding IsStrictlySortedBy
    remove_sorted test [] s = tt
    remove_sorted test (e ∷ es) s =
        elim (test e.0) as (λ b. IsStrictlySortedBy cmp (keys_of (cond b es (e ∷ remove_entry test es)))) [
          | true ↦ s.1
          | false ↦ (remove_keys test (λ y. cmp e.0 y ≡ Less) es s.0, remove_sorted test es s.1)
        ]

    -- what holds of each entry, over a write, and of the value at a key
    pub insert_all : (P : K × X → Type 0) (k : K) (x : X) (es : List (K × X)) → P (k, x) → AllByRecursion P es → AllByRecursion P (insert_entry cmp es k x)
    insert_all P k x [] this h = (this, tt)
    insert_all P k x (e ∷ es) this h =
        elim (cmp k e.0) as (λ o. cmp k e.0 ≡ o → AllByRecursion P (match_ordering o ((k, x) ∷ e ∷ es) ((e.0, x) ∷ es) (e ∷ insert_entry cmp es k x))) [
          | Less ↦ λ is. (this, h)
          | Equal ↦ λ is. let Q : K → Type 0 = λ j. P (j, x) in (subst Q (same k e.0 is) this, h.1)
          | Greater ↦ λ is. (h.0, insert_all P k x es this h.1)
        ] refl

    pub remove_all : (test : K → Bool) (P : K × X → Type 0) (es : List (K × X)) → AllByRecursion P es → AllByRecursion P (remove_entry test es)
    remove_all test P [] h = tt
    remove_all test P (e ∷ es) h = elim (test e.0) as (λ b. AllByRecursion P (cond b es (e ∷ remove_entry test es))) [ true ↦ h.1 | false ↦ (h.0, remove_all test P es h.1) ]

    pub lookup_all : (P : K × X → Type 0) (k : K) (x : X) (es : List (K × X)) → AllByRecursion P es → lookup (is_at (cmp k)) es ≡ Some x → P (k, x)
    lookup_all P k x [] h at = absurd (cc at)
    lookup_all P k x (e ∷ es) h at =
        elim (cmp k e.0) as (λ o. cmp k e.0 ≡ o → cond (is_eq o) (Some e.1) (lookup (is_at (cmp k)) es) ≡ Some x → P (k, x)) [
          | Less ↦ λ is. λ there. lookup_all P k x es h.1 there
          | Equal ↦ λ is. λ here.
              let value : e.1 ≡ x = cc in
              let key : e.0 ≡ k = sym (same k e.0 is) in
              let pair : e ≡ (k, x) = λ i. (key i, value i) in subst P pair h.0
          | Greater ↦ λ is. λ there. lookup_all P k x es h.1 there
        ] refl at

    -- to take out at one key leaves the value at another
    pub lookup_other : (k l : K) (es : List (K × X)) → is_eq (cmp k l) ≡ false → lookup (is_at (cmp l)) (remove_entry (is_at (cmp k)) es) ≡ lookup (is_at (cmp l)) es
    lookup_other k l [] apart = refl
    lookup_other k l (e ∷ es) apart =
        elim (cmp k e.0) as (λ o. cmp k e.0 ≡ o → lookup (is_at (cmp l)) (cond (is_eq o) es (e ∷ remove_entry (is_at (cmp k)) es)) ≡ lookup (is_at (cmp l)) (e ∷ es)) [
          | Less ↦ λ is. ap (cond (is_eq (cmp l e.0)) (Some e.1)) (lookup_other k l es apart)
          | Equal ↦ λ is.
              let other : is_eq (cmp l e.0) ≡ false = ap is_eq (total.antisymm l e.0) ∙ ap (λ j. is_eq (ordering_reverse (cmp j l))) (sym (same k e.0 is)) ∙ reverse_apart (cmp k l) apart in
              sym (found_later cmp l e es other)
          | Greater ↦ λ is. ap (cond (is_eq (cmp l e.0)) (Some e.1)) (lookup_other k l es apart)
        ] refl

    module _ (p : K × X → Bool) where
      pub filter_sorted : (es : List (K × X)) → IsStrictlySortedBy cmp (keys_of es) → IsStrictlySortedBy cmp (keys_of (filter p es))
      unfolding IsStrictlySortedBy
      filter_sorted [] s = tt
      filter_sorted (e ∷ es) s =
          elim (p e) as (λ b. IsStrictlySortedBy cmp (keys_of (cond b (e ∷ filter p es) (filter p es)))) [
            | true ↦ (filter_keys p (λ y. cmp e.0 y ≡ Less) es s.0, filter_sorted es s.1)
            | false ↦ filter_sorted es s.1
          ]

      -- some entries, if an entry among them is written
      pub filter_insert : (k : K) (x : X) (es : List (K × X)) → IsStrictlySortedBy cmp (keys_of es) → p (k, x) ≡ true → filter p (insert_entry cmp es k x) ≡ insert_entry cmp (filter p es) k x
      unfolding IsStrictlySortedBy
      filter_insert k x [] s passing = rw passing refl
      filter_insert k x (e ∷ es) s passing =
          elim (cmp k e.0) as (λ o. cmp k e.0 ≡ o → filter p (match_ordering o ((k, x) ∷ e ∷ es) ((e.0, x) ∷ es) (e ∷ insert_entry cmp es k x)) ≡ insert_entry cmp (filter p (e ∷ es)) k x) [
            | Less ↦ λ is. rw passing (sym (front cmp k x (filter p (e ∷ es)) (filter_keys p (λ y. cmp k y ≡ Less) (e ∷ es) (below_all k e es s is))))
            | Equal ↦ λ is.
                let P : K → Type 0 = λ j. cond (p (j, x)) ((j, x) ∷ filter p es) (filter p es) ≡ insert_entry cmp (filter p (e ∷ es)) k x in
                subst P (same k e.0 is) (rw passing (elim (p e) as (λ b. (k, x) ∷ filter p es ≡ insert_entry cmp (cond b (e ∷ filter p es) (filter p es)) k x) [
                  | true ↦ ap (λ j. (j, x) ∷ filter p es) (same k e.0 is) ∙ sym (at_equal cmp k x e (filter p es) is)
                  | false ↦ sym (front cmp k x (filter p es) (filter_keys p (λ y. cmp k y ≡ Less) es (below_rest k e es s is)))
                ]))
            | Greater ↦ λ is. elim (p e) as (λ b. cond b (e ∷ filter p (insert_entry cmp es k x)) (filter p (insert_entry cmp es k x)) ≡ insert_entry cmp (cond b (e ∷ filter p es) (filter p es)) k x) [
              | true ↦ ap (λ l. e ∷ l) (filter_insert k x es s.1 passing) ∙ sym (at_greater cmp k x e (filter p es) is)
              | false ↦ filter_insert k x es s.1 passing
            ]
          ] refl

      gone_first : (k : K) (e : K × X) (es : List (K × X)) → IsStrictlySortedBy cmp (keys_of (e ∷ es)) → cmp k e.0 ≡ Equal → filter p es ≡ remove_entry (is_at (cmp k)) (filter p (e ∷ es))
      gone_first k e es s is =
          elim (p e) as (λ b. filter p es ≡ remove_entry (is_at (cmp k)) (cond b (e ∷ filter p es) (filter p es))) [
            | true ↦ sym (gone_here cmp k e (filter p es) is)
            | false ↦ sym (remove_absent (is_at (cmp k)) (filter p es) (none_below cmp k (filter p es) (filter_keys p (λ y. cmp k y ≡ Less) es (below_rest k e es s is))))
          ]

      -- some entries, if an entry that is not among them is written
      pub filter_insert_other : (k : K) (x : X) (es : List (K × X)) → IsStrictlySortedBy cmp (keys_of es) → p (k, x) ≡ false
          → filter p (insert_entry cmp es k x) ≡ remove_entry (is_at (cmp k)) (filter p es)
      unfolding IsStrictlySortedBy
      filter_insert_other k x [] s failing = rw failing refl
      filter_insert_other k x (e ∷ es) s failing =
          elim (cmp k e.0) as (λ o. cmp k e.0 ≡ o → filter p (match_ordering o ((k, x) ∷ e ∷ es) ((e.0, x) ∷ es) (e ∷ insert_entry cmp es k x)) ≡ remove_entry (is_at (cmp k)) (filter p (e ∷ es))) [
            | Less ↦ λ is. rw failing (sym (remove_absent (is_at (cmp k)) (filter p (e ∷ es)) (none_below cmp k (filter p (e ∷ es)) (filter_keys p (λ y. cmp k y ≡ Less) (e ∷ es) (below_all k e es s is)))))
            | Equal ↦ λ is.
                let P : K → Type 0 = λ j. cond (p (j, x)) ((j, x) ∷ filter p es) (filter p es) ≡ remove_entry (is_at (cmp k)) (filter p (e ∷ es)) in
                subst P (same k e.0 is) (rw failing (gone_first k e es s is))
            | Greater ↦ λ is. elim (p e) as (λ b. cond b (e ∷ filter p (insert_entry cmp es k x)) (filter p (insert_entry cmp es k x)) ≡ remove_entry (is_at (cmp k)) (cond b (e ∷ filter p es) (filter p es))) [
              | true ↦ ap (λ l. e ∷ l) (filter_insert_other k x es s.1 failing) ∙ sym (gone_later cmp k e (filter p es) (ap is_eq is))
              | false ↦ filter_insert_other k x es s.1 failing
            ]
          ] refl

      passed : (k : K) (e : K × X) (es : List (K × X)) → is_eq (cmp k e.0) ≡ false → filter p (remove_entry (is_at (cmp k)) es) ≡ remove_entry (is_at (cmp k)) (filter p es)
          → filter p (e ∷ remove_entry (is_at (cmp k)) es) ≡ remove_entry (is_at (cmp k)) (filter p (e ∷ es))
      passed k e es is rest =
          elim (p e) as (λ b. cond b (e ∷ filter p (remove_entry (is_at (cmp k)) es)) (filter p (remove_entry (is_at (cmp k)) es)) ≡ remove_entry (is_at (cmp k)) (cond b (e ∷ filter p es) (filter p es))) [
            | true ↦ ap (λ l. e ∷ l) rest ∙ sym (gone_later cmp k e (filter p es) is)
            | false ↦ rest
          ]

      -- some entries, if one is taken away
      pub filter_remove : (k : K) (es : List (K × X)) → IsStrictlySortedBy cmp (keys_of es) → filter p (remove_entry (is_at (cmp k)) es) ≡ remove_entry (is_at (cmp k)) (filter p es)
      unfolding IsStrictlySortedBy
      filter_remove k [] s = refl
      filter_remove k (e ∷ es) s =
          elim (cmp k e.0) as (λ o. cmp k e.0 ≡ o → filter p (cond (is_eq o) es (e ∷ remove_entry (is_at (cmp k)) es)) ≡ remove_entry (is_at (cmp k)) (filter p (e ∷ es))) [
            | Less ↦ λ is. passed k e es (ap is_eq is) (filter_remove k es s.1)
            | Equal ↦ λ is. gone_first k e es s is
            | Greater ↦ λ is. passed k e es (ap is_eq is) (filter_remove k es s.1)
          ] refl

      absent_later : (k : K) (e : K × X) (es : List (K × X)) → is_eq (cmp k e.0) ≡ false → lookup (is_at (cmp k)) (filter p es) ≡ None → lookup (is_at (cmp k)) (filter p (e ∷ es)) ≡ None
      absent_later k e es is rest =
          elim (p e) as (λ b. lookup (is_at (cmp k)) (cond b (e ∷ filter p es) (filter p es)) ≡ None) [
            | true ↦ found_later cmp k e (filter p es) is ∙ rest
            | false ↦ rest
          ]

      -- if the entry of a key is not among some entries, none of them has the key
      pub filter_absent : (k : K) (es : List (K × X)) → IsStrictlySortedBy cmp (keys_of es) → ((x : X) → lookup (is_at (cmp k)) es ≡ Some x → p (k, x) ≡ false) → lookup (is_at (cmp k)) (filter p es) ≡ None
      unfolding IsStrictlySortedBy
      filter_absent k [] s h = refl
      filter_absent k (e ∷ es) s h =
          elim (cmp k e.0) as (λ o. cmp k e.0 ≡ o → lookup (is_at (cmp k)) (filter p (e ∷ es)) ≡ None) [
            | Less ↦ λ is. absent_later k e es (ap is_eq is) (filter_absent k es s.1 (λ x at. h x (found_later cmp k e es (ap is_eq is) ∙ at)))
            | Equal ↦ λ is.
                let here : p (k, e.1) ≡ false = h e.1 (rw is refl) in
                let failing : p e ≡ false = ap (λ j. p (j, e.1)) (sym (same k e.0 is)) ∙ here in
                rw failing (none_below cmp k (filter p es) (filter_keys p (λ y. cmp k y ≡ Less) es (below_rest k e es s is)))
            | Greater ↦ λ is. absent_later k e es (ap is_eq is) (filter_absent k es s.1 (λ x at. h x (found_later cmp k e es (ap is_eq is) ∙ at)))
          ] refl
