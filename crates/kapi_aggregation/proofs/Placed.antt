-- The entries of a map after changes.
use Rattle.std.proofs.Common.{◌≡◌, ◌⊎◌, inl, inr, List, [], ◌∷◌, Bool, true, false, cond, Option, Some, None, refl, sym, ap, ◌∙◌}
use Rattle.std.specs.BTreeMap.{insert_entry}
use Rattle.std.specs.List.{filter}
use Rattle.std.specs.Map.{remove_entry}
use Rattle.std.specs.Ordering.{is_eq, match_ordering}
use Rattle.std.specs.declared.cmp.Ordering.{Ordering}
use Rattle.std.specs.declared.cmp.Ordering.TheVariants.{Less, Equal, Greater}
use Rattle.kapi_store.proofs.Keys.{key_same}
use Rattle.kapi_store.specs.Changes.{placed, placed_all}
use Rattle.kapi_store.specs.Keys.{is_key, key_cmp}
use Rattle.kapi_store.specs.declared.key.Key.{Key}
use Rattle.kapi_aggregation.specs.Members.{Has}

is_equal : (o : Ordering) → is_eq o ≡ true → o ≡ Equal
is_equal Less h = absurd (cc h)
is_equal Equal h = refl
is_equal Greater h = absurd (cc h)

pub key_is : (k l : Key) → is_key k l ≡ true → k ≡ l
key_is k l h = key_same k l (is_equal (key_cmp k l) h)

module _ {X : Type 0} where
  -- the entry of a value at a key
  abbrev entry : X → Key → Key × X
  entry x k = (k, x)

  -- an entry was there, or is the new one
  IsOld : Key → Option X → List (Key × X) → Key × X → Type 0
  IsOld k d os e = Has os e ⊎ ((x : X) × ((d ≡ Some x) × (e ≡ (k, x))))

  later : (k : Key) (d : Option X) (y : Key × X) (os : List (Key × X)) (e : Key × X) → IsOld k d os e → IsOld k d (y ∷ os) e
  unfolding IsOld
  later k d y os e (inl has) = inl (inr has)
  later k d y os e (inr new) = inr new

  put_has : (k : Key) (x : X) (os : List (Key × X)) (e : Key × X) → Has (insert_entry key_cmp os k x) e → IsOld k (Some x) os e
  unfolding IsOld
  put_has k x [] e (inl same) = inr (x, (refl, sym same))
  put_has k x [] e (inr has) = absurd has
  put_has k x (y ∷ os) e has = by_order (key_cmp k y.0) refl (λ there. later k (Some x) y os e (put_has k x os e there)) has
    where
      by_order : (o : Ordering) → key_cmp k y.0 ≡ o → (Has (insert_entry key_cmp os k x) e → Has (y ∷ os) e ⊎ ((z : X) × ((Some x ≡ Some z) × (e ≡ (k, z))))) → Has (match_ordering o ((k, x) ∷ y ∷ os) ((y.0, x) ∷ os) (y ∷ insert_entry key_cmp os k x)) e → Has (y ∷ os) e ⊎ ((z : X) × ((Some x ≡ Some z) × (e ≡ (k, z))))
      by_order Less is rest (inl same) = inr (x, (refl, sym same))
      by_order Less is rest (inr there) = inl there
      by_order Equal is rest (inl same) = inr (x, (refl, sym same ∙ ap (entry x) (sym (key_same k y.0 is))))
      by_order Equal is rest (inr there) = inl (inr there)
      by_order Greater is rest (inl same) = inl (inl same)
      by_order Greater is rest (inr there) = rest there

  removed_has : (k : Key) (os : List (Key × X)) (e : Key × X) → Has (remove_entry (is_key k) os) e → Has os e
  removed_has k [] e has = absurd has
  removed_has k (y ∷ os) e has = by_test (is_key k y.0) (removed_has k os e) has
    where
      by_test : (b : Bool) → (Has (remove_entry (is_key k) os) e → Has os e) → Has (cond b os (y ∷ remove_entry (is_key k) os)) e → Has (y ∷ os) e
      by_test true rest there = inr there
      by_test false rest (inl same) = inl same
      by_test false rest (inr there) = inr (rest there)

  pub placed_has : (k : Key) (d : Option X) (os : List (Key × X)) (e : Key × X) → Has (placed k d os) e → Has os e ⊎ ((x : X) × ((d ≡ Some x) × (e ≡ (k, x))))
  unfolding placed IsOld
  placed_has k (Some x) os e has = put_has k x os e has
  placed_has k None os e has = inl (removed_has k os e has)

  -- an entry was there, or is one of the new ones, after several changes
  pub placed_all_has : (ws : List (Key × Option X)) (os : List (Key × X)) (e : Key × X) → Has (placed_all ws os) e
      → Has os e ⊎ ((w : Key × Option X) × (Has ws w × ((x : X) × ((w.1 ≡ Some x) × (e ≡ (w.0, x))))))
  unfolding placed_all
  placed_all_has [] os e has = inl has
  placed_all_has (w ∷ ws) os e has = onward (placed_all_has ws (placed w.0 w.1 os) e has)
    where
      first : Has os e ⊎ ((x : X) × ((w.1 ≡ Some x) × (e ≡ (w.0, x)))) → Has os e ⊎ ((v : Key × Option X) × (Has (w ∷ ws) v × ((x : X) × ((v.1 ≡ Some x) × (e ≡ (v.0, x))))))
      first (inl there) = inl there
      first (inr new) = inr (w, (inl refl, new))

      onward : Has (placed w.0 w.1 os) e ⊎ ((v : Key × Option X) × (Has ws v × ((x : X) × ((v.1 ≡ Some x) × (e ≡ (v.0, x))))))
          → Has os e ⊎ ((v : Key × Option X) × (Has (w ∷ ws) v × ((x : X) × ((v.1 ≡ Some x) × (e ≡ (v.0, x))))))
      onward (inl there) = first (placed_has w.0 w.1 os e there)
      onward (inr new) = inr (new.0, (inr new.1.0, new.1.1))

  module _ (t : Key × X → Bool) where
    without_first : (e : Key × X) (es : List (Key × X)) → t e ≡ false → filter t (e ∷ es) ≡ filter t es
    without_first e es fails = rw fails refl

    same_first : (e : Key × X) (es fs : List (Key × X)) → filter t es ≡ filter t fs → filter t (e ∷ es) ≡ filter t (e ∷ fs)
    same_first e es fs same = rw same refl

    put_filter : (k : Key) (x : X) (os : List (Key × X)) → t (k, x) ≡ false → ((e : Key × X) → Has os e → e.0 ≡ k → t e ≡ false)
        → filter t (insert_entry key_cmp os k x) ≡ filter t os
    put_filter k x [] new old = without_first (k, x) [] new
    put_filter k x (y ∷ os) new old = by_order (key_cmp k y.0) refl (put_filter k x os new (λ e has at. old e (inr has) at))
      where
        by_order : (o : Ordering) → key_cmp k y.0 ≡ o → filter t (insert_entry key_cmp os k x) ≡ filter t os → filter t (match_ordering o ((k, x) ∷ y ∷ os) ((y.0, x) ∷ os) (y ∷ insert_entry key_cmp os k x)) ≡ filter t (y ∷ os)
        by_order Less is rest = without_first (k, x) (y ∷ os) new
        by_order Equal is rest =
            let at : t (y.0, x) ≡ false = ap (λ (q : Key). t (q, x)) (sym (key_same k y.0 is)) ∙ new in
            without_first (y.0, x) os at ∙ sym (without_first y os (old y (inl refl) (sym (key_same k y.0 is))))
        by_order Greater is rest = same_first y (insert_entry key_cmp os k x) os rest

    removed_filter : (k : Key) (os : List (Key × X)) → ((e : Key × X) → Has os e → e.0 ≡ k → t e ≡ false)
        → filter t (remove_entry (is_key k) os) ≡ filter t os
    removed_filter k [] old = refl
    removed_filter k (y ∷ os) old = by_test (is_key k y.0) refl (removed_filter k os (λ e has at. old e (inr has) at))
      where
        by_test : (b : Bool) → is_key k y.0 ≡ b → filter t (remove_entry (is_key k) os) ≡ filter t os → filter t (cond b os (y ∷ remove_entry (is_key k) os)) ≡ filter t (y ∷ os)
        by_test true is rest = sym (without_first y os (old y (inl refl) (sym (key_is k y.0 is))))
        by_test false is rest = same_first y (remove_entry (is_key k) os) os rest

    -- a test that fails for the new value and for the old one of the key keeps the same entries
    placed_filter : (k : Key) (d : Option X) (os : List (Key × X)) → ((x : X) → d ≡ Some x → t (k, x) ≡ false)
        → ((e : Key × X) → Has os e → e.0 ≡ k → t e ≡ false) → filter t (placed k d os) ≡ filter t os
    unfolding placed
    placed_filter k (Some x) os new old = put_filter k x os (new x refl) old
    placed_filter k None os new old = removed_filter k os old

    pub placed_all_filter : (ws : List (Key × Option X)) (os : List (Key × X))
        → ((w : Key × Option X) → Has ws w → (x : X) → w.1 ≡ Some x → t (w.0, x) ≡ false)
        → ((w : Key × Option X) → Has ws w → (e : Key × X) → Has os e → e.0 ≡ w.0 → t e ≡ false)
        → filter t (placed_all ws os) ≡ filter t os
    unfolding placed_all
    placed_all_filter [] os new old = refl
    placed_all_filter (w ∷ ws) os new old =
        placed_all_filter ws (placed w.0 w.1 os) (λ v has x is. new v (inr has) x is) (λ v has e there at. stood v has e at (placed_has w.0 w.1 os e there))
        ∙ placed_filter w.0 w.1 os (λ x is. new w (inl refl) x is) (λ e there at. old w (inl refl) e there at)
      where
        stood : (v : Key × Option X) → Has ws v → (e : Key × X) → e.0 ≡ v.0 → Has os e ⊎ ((x : X) × ((w.1 ≡ Some x) × (e ≡ (w.0, x)))) → t e ≡ false
        stood v has e at (inl there) = old v (inr has) e there at
        stood v has e at (inr put) = ap t put.1.1 ∙ new w (inl refl) put.0 put.1.0
