-- What is collected of objects, after one of them was put or removed.
use Rattle.std.proofs.Common.{◌≡◌, List, [], ◌∷◌, false, cond, Option, None, Some, refl, sym, ap, ◌∙◌, subst}
use Rattle.std.specs.BTreeMap.{insert_entry, is_at}
use Rattle.std.specs.List.{AllByRecursion}
use Rattle.std.specs.List.Sorted.{IsStrictlySortedBy}
use Rattle.std.specs.Map.{keys_of, remove_entry}
use Rattle.std.specs.Ordering.{is_eq, match_ordering}
use Rattle.std.specs.declared.cmp.Ordering.{Ordering}
use Rattle.std.specs.declared.cmp.Ordering.TheVariants.{Less, Equal, Greater}
use Rattle.serde_json.specs.Data.{Data}
use Rattle.kapi_store.specs.Keys.{key_cmp, is_key}
use Rattle.kapi_store.specs.declared.key.Key.{Key}
use Rattle.kapi_store.proofs.Keys.{key_same, key_total}
use Rattle.kapi_escalation.specs.Reading.{collected, entry_if}

-- a key before another is before all that the other is before
below_all : (k l : Key) → key_cmp k l ≡ Less → (ks : List Key) → AllByRecursion (λ y. key_cmp l y ≡ Less) ks → AllByRecursion (λ y. key_cmp k y ≡ Less) ks
below_all k l is [] h = tt
below_all k l is (y ∷ ys) h = (key_total.trans k l y is h.0, below_all k l is ys h.1)

module _ {K X : Type 0} (pick : Key → Option K) (read : Data → X) where
  -- ---- if the key is no place of the kind

  -- two entries of one key
  skipped : (k l : Key) → key_cmp k l ≡ Equal → pick k ≡ None → (x : X) (es : List (K × X)) → entry_if (pick l) x es ≡ es
  skipped k l same is x es = ap (λ o. entry_if o x es) (ap pick (sym (key_same k l same)) ∙ is)

  pub put_elsewhere : (k : Key) (d : Data) → pick k ≡ None → (os : List (Key × Data)) → collected pick read (insert_entry key_cmp os k d) ≡ collected pick read os
  unfolding collected
  put_elsewhere k d is [] = ap (λ o. entry_if o (read d) []) is
  put_elsewhere k d is (e ∷ os) = by_case (key_cmp k e.0) refl (put_elsewhere k d is os)
    where
      by_case : (r : Ordering) → key_cmp k e.0 ≡ r → collected pick read (insert_entry key_cmp os k d) ≡ collected pick read os
          → collected pick read (match_ordering r ((k, d) ∷ e ∷ os) ((e.0, d) ∷ os) (e ∷ insert_entry key_cmp os k d)) ≡ entry_if (pick e.0) (read e.1) (collected pick read os)
      by_case Less at rest = ap (λ o. entry_if o (read d) (entry_if (pick e.0) (read e.1) (collected pick read os))) is
      by_case Equal at rest = skipped k e.0 at is (read d) (collected pick read os) ∙ sym (skipped k e.0 at is (read e.1) (collected pick read os))
      by_case Greater at rest = ap (entry_if (pick e.0) (read e.1)) rest

  pub removed_elsewhere : (k : Key) → pick k ≡ None → (os : List (Key × Data)) → collected pick read (remove_entry (is_key k) os) ≡ collected pick read os
  unfolding collected
  removed_elsewhere k is [] = refl
  removed_elsewhere k is (e ∷ os) = by_case (key_cmp k e.0) refl (removed_elsewhere k is os)
    where
      by_case : (r : Ordering) → key_cmp k e.0 ≡ r → collected pick read (remove_entry (is_key k) os) ≡ collected pick read os
          → collected pick read (cond (is_eq r) os (e ∷ remove_entry (is_key k) os)) ≡ entry_if (pick e.0) (read e.1) (collected pick read os)
      by_case Less at rest = ap (entry_if (pick e.0) (read e.1)) rest
      by_case Equal at rest = sym (skipped k e.0 at is (read e.1) (collected pick read os))
      by_case Greater at rest = ap (entry_if (pick e.0) (read e.1)) rest

-- places are in the order of the keys at which they are
module _ {K X : Type 0} (pick : Key → Option K) (read : Data → X) (cmp : K → K → Ordering)
    (keeps : (k l : Key) (q r : K) → pick k ≡ Some q → pick l ≡ Some r → cmp q r ≡ key_cmp k l) where
  -- ---- if the key is a place of the kind

  above : (k : Key) (q : K) → pick k ≡ Some q → (os : List (Key × Data)) → AllByRecursion (λ l. key_cmp k l ≡ Less) (keys_of os)
      → AllByRecursion (λ r. cmp q r ≡ Less) (keys_of (collected pick read os))
  unfolding collected
  above k q is [] h = tt
  above k q is (e ∷ os) h = by_case (pick e.0) refl (above k q is os h.1)
    where
      by_case : (o : Option K) → pick e.0 ≡ o → AllByRecursion (λ r. cmp q r ≡ Less) (keys_of (collected pick read os))
          → AllByRecursion (λ r. cmp q r ≡ Less) (keys_of (entry_if o (read e.1) (collected pick read os)))
      by_case None at rest = rest
      by_case (Some r) at rest = (keeps k e.0 q r is at ∙ h.0, rest)

  put_front : (q : K) (x : X) (es : List (K × X)) → AllByRecursion (λ r. cmp q r ≡ Less) (keys_of es) → insert_entry cmp es q x ≡ (q, x) ∷ es
  put_front q x [] h = refl
  put_front q x (e ∷ es) h = ap (λ r. match_ordering r ((q, x) ∷ e ∷ es) ((e.0, x) ∷ es) (e ∷ insert_entry cmp es q x)) h.0

  -- another place is at an equal key
  level : (k l : Key) (q : K) → pick k ≡ Some q → key_cmp k l ≡ Equal → (pick l ≡ Some q) × (cmp q q ≡ Equal)
  level k l q is at = let there : pick l ≡ Some q = ap pick (sym (key_same k l at)) ∙ is in (there, keeps k l q q is there ∙ at)

  pub put_there : (k : Key) (q : K) (d : Data) → pick k ≡ Some q → (os : List (Key × Data)) → IsStrictlySortedBy key_cmp (keys_of os)
      → collected pick read (insert_entry key_cmp os k d) ≡ insert_entry cmp (collected pick read os) q (read d)
  unfolding collected IsStrictlySortedBy
  put_there k q d is [] h = ap (λ o. entry_if o (read d) []) is
  put_there k q d is (e ∷ os) h = by_case (key_cmp k e.0) refl (put_there k q d is os h.1)
    where
      rest : List (K × X)
      rest = collected pick read os

      by_pick : (o : Option K) → pick e.0 ≡ o → key_cmp k e.0 ≡ Greater → collected pick read (insert_entry key_cmp os k d) ≡ insert_entry cmp rest q (read d)
          → entry_if o (read e.1) (collected pick read (insert_entry key_cmp os k d)) ≡ insert_entry cmp (entry_if o (read e.1) rest) q (read d)
      by_pick None there at h = h
      by_pick (Some r) there at h =
          ap (λ es. (r, read e.1) ∷ es) h
          ∙ sym (ap (λ o. match_ordering o ((q, read d) ∷ (r, read e.1) ∷ rest) ((r, read d) ∷ rest) ((r, read e.1) ∷ insert_entry cmp rest q (read d))) (keeps k e.0 q r is there ∙ at))

      by_case : (r : Ordering) → key_cmp k e.0 ≡ r → collected pick read (insert_entry key_cmp os k d) ≡ insert_entry cmp rest q (read d)
          → collected pick read (match_ordering r ((k, d) ∷ e ∷ os) ((e.0, d) ∷ os) (e ∷ insert_entry key_cmp os k d)) ≡ insert_entry cmp (entry_if (pick e.0) (read e.1) rest) q (read d)
      by_case Less at _ =
          ap (λ o. entry_if o (read d) (entry_if (pick e.0) (read e.1) rest)) is
          ∙ sym (put_front q (read d) (entry_if (pick e.0) (read e.1) rest) (above k q is (e ∷ os) (at, below_all k e.0 at (keys_of os) h.0)))
      by_case Equal at _ =
          let same = level k e.0 q is at in
          let P : Option K → Type 0 = λ o. entry_if o (read d) rest ≡ insert_entry cmp (entry_if o (read e.1) rest) q (read d) in
          subst P (sym same.0) (sym (ap (λ r. match_ordering r ((q, read d) ∷ (q, read e.1) ∷ rest) ((q, read d) ∷ rest) ((q, read e.1) ∷ insert_entry cmp rest q (read d))) same.1))
      by_case Greater at tail = by_pick (pick e.0) refl at tail

  pub removed_there : (k : Key) (q : K) → pick k ≡ Some q → (os : List (Key × Data))
      → collected pick read (remove_entry (is_key k) os) ≡ remove_entry (is_at (cmp q)) (collected pick read os)
  unfolding collected
  removed_there k q is [] = refl
  removed_there k q is (e ∷ os) = by_case (key_cmp k e.0) refl (removed_there k q is os)
    where
      rest : List (K × X)
      rest = collected pick read os

      by_pick : (o : Option K) → pick e.0 ≡ o → is_eq (key_cmp k e.0) ≡ false → collected pick read (remove_entry (is_key k) os) ≡ remove_entry (is_at (cmp q)) rest
          → entry_if o (read e.1) (collected pick read (remove_entry (is_key k) os)) ≡ remove_entry (is_at (cmp q)) (entry_if o (read e.1) rest)
      by_pick None there at h = h
      by_pick (Some r) there at h =
          ap (λ es. (r, read e.1) ∷ es) h
          ∙ sym (ap (λ b. cond b rest ((r, read e.1) ∷ remove_entry (is_at (cmp q)) rest)) (ap is_eq (keeps k e.0 q r is there) ∙ at))

      by_case : (r : Ordering) → key_cmp k e.0 ≡ r → collected pick read (remove_entry (is_key k) os) ≡ remove_entry (is_at (cmp q)) rest
          → collected pick read (cond (is_eq r) os (e ∷ remove_entry (is_key k) os)) ≡ remove_entry (is_at (cmp q)) (entry_if (pick e.0) (read e.1) rest)
      by_case Less at tail = by_pick (pick e.0) refl (ap is_eq at) tail
      by_case Equal at tail =
          let same = level k e.0 q is at in
          let P : Option K → Type 0 = λ o. rest ≡ remove_entry (is_at (cmp q)) (entry_if o (read e.1) rest) in
          subst P (sym same.0) (sym (ap (λ r. cond (is_eq r) rest ((q, read e.1) ∷ remove_entry (is_at (cmp q)) rest)) same.1))
      by_case Greater at tail = by_pick (pick e.0) refl (ap is_eq at) tail

  -- what is collected is in the order of its places
  pub collected_in_order : (os : List (Key × Data)) → IsStrictlySortedBy key_cmp (keys_of os) → IsStrictlySortedBy cmp (keys_of (collected pick read os))
  unfolding collected IsStrictlySortedBy
  collected_in_order [] h = tt
  collected_in_order (e ∷ os) h = by_case (pick e.0) refl (collected_in_order os h.1)
    where
      by_case : (o : Option K) → pick e.0 ≡ o → IsStrictlySortedBy cmp (keys_of (collected pick read os))
          → IsStrictlySortedBy cmp (keys_of (entry_if o (read e.1) (collected pick read os)))
      by_case None at rest = rest
      by_case (Some r) at rest = (above e.0 r at os h.0, rest)
