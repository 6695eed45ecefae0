-- What becomes of a hidden slot if something is placed.
use Rattle.std.proofs.Common.{◌≡◌, Bool, true, false, cond, List, [], ◌∷◌, Option, None, Some, IsSome, option_map, refl, sym, ap, ◌∙◌, subst}
use Rattle.std.specs.List.Sorted.{IsStrictlySortedBy}
use Rattle.std.specs.Cmp.{IsEquivalence, eq_by_cmp_equiv}
use Rattle.std.specs.Map.{lookup, keys_of, remove_entry, set_value}
use Rattle.std.specs.BTreeMap.{insert_entry}
use Rattle.std.proofs.lemmas.Map.{lookup-set_value, lookup-remove_entry}
use Rattle.std.proofs.lemmas.Map.Keys.{IsDistinct-from_sorted}
use Rattle.kapi_store.specs.declared.key.Key.{Key}
use Rattle.kapi_store.specs.declared.slots.Hidden.{Hidden}
use Rattle.kapi_store.specs.declared.stored.StoredObject.{StoredObject}
use Rattle.kapi_store.specs.Keys.{key_cmp, is_key}
use Rattle.kapi_store.specs.Private.Hidden.{hides, visible, HoldsHidden}
use Rattle.kapi_store.proofs.Keys.{key_total}
use Rattle.kapi_store.proofs.SlotSteps.{all_visible, lookup_visible, own, remove_absent, same_key, some_injective, visible_filled, visible_removed, visible_shown, visible_swept}

module _ {X : Type 0} where
  set_same : (test : Key → Bool) (x : X) (es : List (Key × X)) → lookup test es ≡ Some x → set_value test es x ≡ es
  set_same test x [] is = refl
  set_same test x (e ∷ es) is =
      elim (test e.0) as (λ b. cond b (Some e.1) (lookup test es) ≡ Some x → cond b ((e.0, x) ∷ es) (e ∷ set_value test es x) ≡ e ∷ es) [
        | true ↦ λ k. ap (λ y. (e.0, y) ∷ es) (sym (some_injective e.1 x k))
        | false ↦ λ k. ap (λ os. e ∷ os) (set_same test x es k)
      ] is

  -- an object that is put into a slot, which is then visible, is put among the visible ones
  pub filled : (before after : Option Hidden) (k : Key) (x : X) (es : List (Key × X)) → IsStrictlySortedBy key_cmp (keys_of es) → IsSome (lookup (is_key k) es)
      → (hides before k ≡ true → after ≡ None) → (hides before k ≡ false → after ≡ before)
      → visible after (set_value (is_key k) es x) ≡ insert_entry key_cmp (visible before es) k x
  filled None after k x es sorted some shown stays =
      ap (λ hidden. visible hidden (set_value (is_key k) es x)) (stays refl) ∙ visible_filled None k x es sorted some refl
  filled (Some h) after k x es sorted some shown stays =
      elim (is_key h.key k) as (λ b. is_key h.key k ≡ b → visible after (set_value (is_key k) es x) ≡ insert_entry key_cmp (visible (Some h) es) k x) [
        | true ↦ λ is. let key : h.key ≡ k = same_key h.key k is in
            let P : Key → Type 0 = λ l. IsSome (lookup (is_key l) es) → set_value (is_key l) es x ≡ insert_entry key_cmp (visible (Some h) es) l x in
            ap (λ hidden. visible hidden (set_value (is_key k) es x)) (shown is) ∙ all_visible (set_value (is_key k) es x)
            ∙ subst P key (visible_shown h x es sorted) some
        | false ↦ λ is. ap (λ hidden. visible hidden (set_value (is_key k) es x)) (stays is) ∙ visible_filled (Some h) k x es sorted some is
      ] refl

  -- an object that lies in a slot, which is then visible, is put among the visible ones
  pub revealed : (before after : Option Hidden) (k : Key) (x : X) (es : List (Key × X)) → IsStrictlySortedBy key_cmp (keys_of es) → lookup (is_key k) es ≡ Some x
      → (hides before k ≡ true → after ≡ None) → (hides before k ≡ false → after ≡ before)
      → visible after es ≡ insert_entry key_cmp (visible before es) k x
  revealed before after k x es sorted is shown stays =
      let P : Option X → Type 0 = λ o. IsSome o in
      ap (visible after) (sym (set_same (is_key k) x es is)) ∙ filled before after k x es sorted (subst P (sym is) refl) shown stays

  -- a slot that is taken out is taken out of the visible ones
  pub taken : (before after : Option Hidden) (k : Key) (es : List (Key × X)) → IsStrictlySortedBy key_cmp (keys_of es)
      → (hides before k ≡ true → after ≡ None) → (hides before k ≡ false → after ≡ before)
      → visible after (remove_entry (is_key k) es) ≡ remove_entry (is_key k) (visible before es)
  taken None after k es sorted shown stays =
      ap (λ hidden. visible hidden (remove_entry (is_key k) es)) (stays refl) ∙ visible_removed None k es sorted
  taken (Some h) after k es sorted shown stays =
      elim (is_key h.key k) as (λ b. is_key h.key k ≡ b → visible after (remove_entry (is_key k) es) ≡ remove_entry (is_key k) (visible (Some h) es)) [
        | true ↦ λ is. let key : h.key ≡ k = same_key h.key k is in
            let P : Key → Type 0 = λ l. remove_entry (is_key l) es ≡ remove_entry (is_key l) (visible (Some h) es) in
            ap (λ hidden. visible hidden (remove_entry (is_key k) es)) (shown is) ∙ all_visible (remove_entry (is_key k) es)
            ∙ subst P key (visible_swept h es sorted ∙ sym (remove_absent (is_key h.key) (visible (Some h) es) (lookup_visible (Some h) h.key es ∙ rw (own h.key) refl)))
        | false ↦ λ is. ap (λ hidden. visible hidden (remove_entry (is_key k) es)) (stays is) ∙ visible_removed (Some h) k es sorted
      ] refl

-- ---- the object of the hidden slot

key_laws : IsEquivalence is_key
key_laws = eq_by_cmp_equiv key_total

-- the keys that are one are alike
one_class : (k x y : Key) → is_key k x ≡ true → is_key k y ≡ is_key x y
one_class k x y is = ap (λ l. is_key l y) (same_key k x is)

module _ (before after : Option Hidden) (k : Key) (es : List (Key × StoredObject)) (shown : hides before k ≡ true → after ≡ None) (stays : hides before k ≡ false → after ≡ before) where
  -- slots that have the same object at all other keys hold the same hidden object
  holds_beside : (fs : List (Key × StoredObject)) → ((l : Key) → is_key l k ≡ false → lookup (is_key l) fs ≡ lookup (is_key l) es) → HoldsHidden before es → HoldsHidden after fs
  holds_beside fs same holds = by_hidden before refl
    where
      P : Option Hidden → Type 0
      P hidden = HoldsHidden hidden fs

      by_hidden : (hidden : Option Hidden) → before ≡ hidden → HoldsHidden after fs
      by_hidden None is = subst P (sym (stays (ap (λ o. hides o k) is) ∙ is)) tt
      by_hidden (Some h) is =
          elim (is_key h.key k) as (λ b. is_key h.key k ≡ b → HoldsHidden after fs) [
            | true ↦ λ hidden. subst P (sym (shown (ap (λ o. hides o k) is ∙ hidden))) tt
            | false ↦ λ other. let Q : Option Hidden → Type 0 = λ o. HoldsHidden o es in
                subst P (sym (stays (ap (λ o. hides o k) is ∙ other) ∙ is)) (same h.key other ∙ subst Q is holds)
          ] refl

  pub holds_same : HoldsHidden before es → HoldsHidden after es
  holds_same holds = holds_beside es (λ l other. refl) holds

  pub holds_filled : (x : StoredObject) → IsSome (lookup (is_key k) es) → HoldsHidden before es → HoldsHidden after (set_value (is_key k) es x)
  holds_filled x some holds =
      holds_beside (set_value (is_key k) es x) (λ l other. lookup-set_value key_laws (is_key k) (one_class k) l x es some
      ∙ ap (λ b. cond b (Some x) (lookup (is_key l) es)) (key_laws.symm k l ∙ other)) holds

  pub holds_taken : IsStrictlySortedBy key_cmp (keys_of es) → HoldsHidden before es → HoldsHidden after (remove_entry (is_key k) es)
  holds_taken sorted holds =
      holds_beside (remove_entry (is_key k) es) (λ l other. lookup-remove_entry key_laws (is_key k) (one_class k) l es (IsDistinct-from_sorted key_cmp (keys_of es) sorted)
      ∙ ap (λ b. cond b None (lookup (is_key l) es)) (key_laws.symm k l ∙ other)) holds

-- what was hidden at a key lies there
pub waiting_there : (before : Option Hidden) (k : Key) (es : List (Key × StoredObject)) (waiting : Option StoredObject) (x : StoredObject) → HoldsHidden before es
    → (hides before k ≡ true → waiting ≡ option_map (λ h. h.object) before) → (hides before k ≡ false → waiting ≡ None) → waiting ≡ Some x → lookup (is_key k) es ≡ Some x
waiting_there None k es waiting x holds shown other is = absurd (cc (other refl, is))
waiting_there (Some h) k es waiting x holds shown other is =
    elim (is_key h.key k) as (λ b. is_key h.key k ≡ b → lookup (is_key k) es ≡ Some x) [
      | true ↦ λ same. let P : Key → Type 0 = λ l. lookup (is_key l) es ≡ Some x in
          subst P (same_key h.key k same) (holds ∙ sym (shown same) ∙ is)
      | false ↦ λ apart. absurd (cc (other apart, is))
    ] refl
