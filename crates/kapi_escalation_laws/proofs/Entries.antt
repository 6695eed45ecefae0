-- Entries of lists in the order of their keys, and what look-ups find.
use Rattle.std.proofs.Common.{◌≡◌, ◌⊎◌, inl, inr, ℕ, List, [], ◌∷◌, Bool, true, false, cond, ◌&&◌, Some, refl, sym, ap, ◌∙◌}
use Rattle.std.proofs.lemmas.Map.Text.{is_eq-slice_cmp}
use Rattle.std.specs.BTreeMap.{insert_entry}
use Rattle.std.specs.List.{AllByRecursion}
use Rattle.std.specs.List.Sorted.{IsStrictlySortedBy}
use Rattle.std.specs.Map.{keys_of, lookup, remove_entry}
use Rattle.std.specs.Ordering.{is_eq, match_ordering, ordering_then}
use Rattle.std.specs.Str.{bytes_eq}
use Rattle.std.specs.declared.cmp.Ordering.{Ordering}
use Rattle.std.specs.declared.cmp.Ordering.TheVariants.{Less, Equal, Greater}
use Rattle.std.proofs.lemmas.Bool.{and_parts}
use Rattle.kapi_text.proofs.Booleans.{by_truth}
use Rattle.kapi_rules.proofs.Covers.{itself, same}
use Rattle.kapi_policy.specs.Decided.{is_place}
use Rattle.kapi_policy.specs.Objects.{name_cmp, place_cmp}
use Rattle.kapi_policy.specs.declared.change.NamespacedName.{NamespacedName}
use Rattle.kapi_aggregation.specs.Members.{Has}

-- ---- tests on names and places

pub turned_names : (a b : List ℕ) → bytes_eq a b ≡ bytes_eq b a
turned_names a b = by_truth (bytes_eq a b) (bytes_eq b a) (λ h. rw (same a b h) (itself b)) (λ h. rw (same b a h) (itself a))

pub name_found : (q name : List ℕ) → is_eq (name_cmp q name) ≡ bytes_eq q name
name_found q name = is_eq-slice_cmp q name

then_both : (a b : Ordering) → is_eq (ordering_then a b) ≡ (is_eq a && is_eq b)
then_both Less b = refl
then_both Equal b = refl
then_both Greater b = refl

pub place_found : (q place : NamespacedName) → is_eq (place_cmp q place) ≡ is_place q.namespace q.name place
place_found q place =
    then_both (name_cmp q.namespace place.namespace) (name_cmp q.name place.name)
    ∙ rw (name_found q.namespace place.namespace, name_found q.name place.name, turned_names q.namespace place.namespace, turned_names q.name place.name) refl

equal_tested : (r : Ordering) → r ≡ Equal → is_eq r ≡ true
equal_tested r h = ap is_eq h

pub name_exact : (a b : List ℕ) → name_cmp a b ≡ Equal → a ≡ b
name_exact a b h = same a b (sym (name_found a b) ∙ equal_tested (name_cmp a b) h)

-- a found place has the namespace and the name that are looked for
pub same_place : (namespace name : List ℕ) (place : NamespacedName) → is_place namespace name place ≡ true → (place.namespace ≡ namespace) × (place.name ≡ name)
same_place namespace name place h =
    let both = and_parts (bytes_eq place.namespace namespace) (bytes_eq place.name name) h in
    (same place.namespace namespace both.0, same place.name name both.1)

pub place_exact : (a b : NamespacedName) → place_cmp a b ≡ Equal → a ≡ b
place_exact a b h =
    let there = same_place a.namespace a.name b (sym (place_found a b) ∙ equal_tested (place_cmp a b) h) in
    λ i. record { namespace = sym there.0 i; name = sym there.1 i }

-- ---- look-ups

module _ {K X : Type 0} where
  -- two tests that agree find the same
  pub lookup_by : (p q : K → Bool) → ((k : K) → p k ≡ q k) → (es : List (K × X)) → lookup p es ≡ lookup q es
  lookup_by p q agree [] = refl
  lookup_by p q agree (e ∷ es) = rw (agree e.0, lookup_by p q agree es) refl

  -- what is found is there
  pub found_in : (p : K → Bool) (es : List (K × X)) (v : X) → lookup p es ≡ Some v → (k : K) × (Has es (k, v) × (p k ≡ true))
  found_in p [] v h = absurd (cc h)
  found_in p (e ∷ es) v h = by_case (p e.0) refl (λ k. found_in p es v k) h
    where
      by_case : (b : Bool) → p e.0 ≡ b → (lookup p es ≡ Some v → (k : K) × (Has es (k, v) × (p k ≡ true))) → cond b (Some e.1) (lookup p es) ≡ Some v → (k : K) × (Has (e ∷ es) (k, v) × (p k ≡ true))
      by_case true is more found = let value : e.1 ≡ v = cc found in (e.0, (inl (ap (λ w. (e.0, w)) value), is))
      by_case false is more found = let rest = more found in (rest.0, (inr rest.1.0, rest.1.1))

  -- ---- entries after changes

  module _ (cmp : K → K → Ordering) (exact : (a b : K) → cmp a b ≡ Equal → a ≡ b) where
    pub put_has : (es : List (K × X)) (k : K) (v : X) (e : K × X) → Has (insert_entry cmp es k v) e → ((k, v) ≡ e) ⊎ Has es e
    put_has [] k v e (inl same) = inl same
    put_has [] k v e (inr has) = absurd has
    put_has (x ∷ es) k v e has = by_case (cmp k x.0) refl (λ there. put_has es k v e there) has
      where
        by_case : (r : Ordering) → cmp k x.0 ≡ r → (Has (insert_entry cmp es k v) e → ((k, v) ≡ e) ⊎ Has es e)
            → Has (match_ordering r ((k, v) ∷ x ∷ es) ((x.0, v) ∷ es) (x ∷ insert_entry cmp es k v)) e → ((k, v) ≡ e) ⊎ Has (x ∷ es) e
        by_case Less is more (inl same) = inl same
        by_case Less is more (inr there) = inr there
        by_case Equal is more (inl same) = inl (ap (λ l. (l, v)) (exact k x.0 is) ∙ same)
        by_case Equal is more (inr there) = inr (inr there)
        by_case Greater is more (inl same) = inr (inl same)
        by_case Greater is more (inr there) = by_other (more there)
          where
            by_other : ((k, v) ≡ e) ⊎ Has es e → ((k, v) ≡ e) ⊎ Has (x ∷ es) e
            by_other (inl same) = inl same
            by_other (inr has) = inr (inr has)

  pub delete_has : (test : K → Bool) (es : List (K × X)) (e : K × X) → Has (remove_entry test es) e → Has es e
  delete_has test [] e has = absurd has
  delete_has test (x ∷ es) e has = by_case (test x.0) (λ there. delete_has test es e there) has
    where
      by_case : (b : Bool) → (Has (remove_entry test es) e → Has es e) → Has (cond b es (x ∷ remove_entry test es)) e → Has (x ∷ es) e
      by_case true more there = inr there
      by_case false more (inl same) = inl same
      by_case false more (inr there) = inr (more there)

-- ---- names in order

-- the keys of entries that come later are above
above : {X : Type 0} (name : List ℕ) (es : List (List ℕ × X)) (e : List ℕ × X) → AllByRecursion (λ y. name_cmp name y ≡ Less) (keys_of es) → Has es e → name_cmp name e.0 ≡ Less
above name [] e all has = absurd has
above name (x ∷ es) e all (inl same) = rw (← same) all.0
above name (x ∷ es) e all (inr has) = above name es e all.1 has

-- an entry is what its name finds
pub in_found : {X : Type 0} (es : List (List ℕ × X)) (e : List ℕ × X) → IsStrictlySortedBy name_cmp (keys_of es) → Has es e → lookup (bytes_eq e.0) es ≡ Some e.1
unfolding IsStrictlySortedBy
in_found [] e sorted has = absurd has
in_found (x ∷ es) e sorted (inl same) = rw (same, itself e.0) refl
in_found (x ∷ es) e sorted (inr has) =
    let less : name_cmp x.0 e.0 ≡ Less = above x.0 es e sorted.0 has in
    let other : bytes_eq e.0 x.0 ≡ false = turned_names e.0 x.0 ∙ sym (name_found x.0 e.0) ∙ ap is_eq less in
    rw other (in_found es e sorted.1 has)
