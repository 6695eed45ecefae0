-- What all namespaces hold, after one of them was put anew.
use Rattle.std.proofs.Common.{◌≡◌, ℕ, Bool, true, false, cond, if◌then◌else◌, List, [], ◌∷◌, ◌++◌, map, Some, None, refl, sym, ap, subst, append-nil, string_bytes, ◌∙◌}
use Rattle.std.specs.BTreeMap.{insert_entry, is_at}
use Rattle.std.specs.Cmp.Lexicographic.{slice_cmp}
use Rattle.std.specs.List.{AllByRecursion, filter}
use Rattle.std.specs.List.Sorted.{IsStrictlySortedBy}
use Rattle.std.specs.Map.{keys_of, lookup, remove_entry, set_value}
use Rattle.std.specs.Ordering.{is_eq, match_ordering, nat_cmp}
use Rattle.std.specs.Str.{bytes_eq}
use Rattle.std.specs.declared.string.String.{String}
use Rattle.std.specs.declared.alloc.Global.{Global}
use Rattle.std.specs.declared.cmp.Ordering.{Ordering}
use Rattle.std.specs.declared.cmp.Ordering.TheVariants.{Less, Equal, Greater}
use Rattle.std.proofs.lemmas.Map.Lookups.{exact_bytes}
use Rattle.std.proofs.lemmas.Map.Text.{is_eq-slice_cmp}
use Rattle.kapi_policy.specs.Decided.{is_in}
use Rattle.kapi_policy.specs.Objects.{name_cmp, place_cmp}
use Rattle.kapi_policy.specs.declared.change.NamespacedName.{NamespacedName}
use Rattle.kapi_policy.proofs.Sets.{put_keeps}
use Rattle.kapi_text.proofs.Booleans.{turned}
use Rattle.kapi_index.proofs.Finds.{name_total}
use Rattle.kapi_index.specs.Contents.{AreNamed, AreDistinct, by_text, in_all, in_one, placed}
use Rattle.kapi_index.specs.declared.spaces.Namespace.{Namespace}

pub below_more : (k l : List ℕ) (ks : List (List ℕ)) → name_cmp k l ≡ Less → AllByRecursion (λ y. name_cmp l y ≡ Less) ks → AllByRecursion (λ y. name_cmp k y ≡ Less) ks
below_more k l [] is all = tt
below_more k l (y ∷ ys) is all = (name_total.trans k l y is all.0, below_more k l ys is all.1)

pub equal_more : (k l : List ℕ) (ks : List (List ℕ)) → name_cmp k l ≡ Equal → AllByRecursion (λ y. name_cmp l y ≡ Less) ks → AllByRecursion (λ y. name_cmp k y ≡ Less) ks
equal_more k l ks is all = subst (λ n. AllByRecursion (λ y. name_cmp n y ≡ Less) ks) (sym (exact_bytes k l is)) all

-- ---- namespaces by the bytes of their names

module _ {X : Type 0} where
  pub lookup_text : (bs : List ℕ) (es : List (String Global × X)) → lookup (is_at (λ k. slice_cmp nat_cmp bs (string_bytes k))) es ≡ lookup (is_at (name_cmp bs)) (by_text es)
  lookup_text bs [] = refl
  lookup_text bs (e ∷ es) = rw (lookup_text bs es) refl

  pub set_text : (bs : List ℕ) (es : List (String Global × X)) (w : X)
      → by_text (set_value (is_at (λ k. slice_cmp nat_cmp bs (string_bytes k))) es w) ≡ set_value (is_at (name_cmp bs)) (by_text es) w
  set_text bs [] w = refl
  set_text bs (e ∷ es) w =
      elim (is_at (name_cmp bs) (string_bytes e.0)) as (λ t. by_text (cond t ((e.0, w) ∷ es) (e ∷ set_value (is_at (λ k. slice_cmp nat_cmp bs (string_bytes k))) es w))
      ≡ cond t ((string_bytes e.0, w) ∷ by_text es) ((string_bytes e.0, e.1) ∷ set_value (is_at (name_cmp bs)) (by_text es) w)) [
        | true ↦ refl
        | false ↦ ap (λ l. (string_bytes e.0, e.1) ∷ l) (set_text bs es w)
      ]

  pub insert_text : (es : List (String Global × X)) (k : String Global) (w : X)
      → by_text (insert_entry (λ a b. slice_cmp nat_cmp (string_bytes a) (string_bytes b)) es k w) ≡ insert_entry name_cmp (by_text es) (string_bytes k) w
  insert_text [] k w = refl
  insert_text (e ∷ es) k w =
      elim (name_cmp (string_bytes k) (string_bytes e.0)) as (λ r. by_text (match_ordering r ((k, w) ∷ e ∷ es) ((e.0, w) ∷ es) (e ∷ insert_entry (λ a b. slice_cmp nat_cmp (string_bytes a) (string_bytes b)) es k w))
      ≡ match_ordering r ((string_bytes k, w) ∷ (string_bytes e.0, e.1) ∷ by_text es) ((string_bytes e.0, w) ∷ by_text es) ((string_bytes e.0, e.1) ∷ insert_entry name_cmp (by_text es) (string_bytes k) w)) [
        | Less ↦ refl
        | Equal ↦ refl
        | Greater ↦ ap (λ l. (string_bytes e.0, e.1) ∷ l) (insert_text es k w)
      ]

  -- below all names none is found
  pub none_below : (k : List ℕ) (es : List (List ℕ × X)) → AllByRecursion (λ y. name_cmp k y ≡ Less) (keys_of es) → lookup (is_at (name_cmp k)) es ≡ None
  none_below k [] all = refl
  none_below k (e ∷ es) all = rw all.0 (none_below k es all.1)

  -- a value set at a name that is there is one put there
  pub set_is_put : (k : List ℕ) (v : X) (w : X) (es : List (List ℕ × X)) → IsStrictlySortedBy name_cmp (keys_of es) → lookup (is_at (name_cmp k)) es ≡ Some v
      → set_value (is_at (name_cmp k)) es w ≡ insert_entry name_cmp es k w
  unfolding IsStrictlySortedBy
  set_is_put k v w [] sorted found = absurd (let none : None ≡ Some v = found in cc none)
  set_is_put k v w (e ∷ es) sorted found = by_order (name_cmp k e.0) refl (set_is_put k v w es sorted.1)
    where
      by_order : (r : Ordering) → name_cmp k e.0 ≡ r → (lookup (is_at (name_cmp k)) es ≡ Some v → set_value (is_at (name_cmp k)) es w ≡ insert_entry name_cmp es k w)
          → set_value (is_at (name_cmp k)) (e ∷ es) w ≡ insert_entry name_cmp (e ∷ es) k w
      by_order Less is more =
          absurd (let later : lookup (is_at (name_cmp k)) es ≡ Some v = rw is at found in
          let none : None ≡ Some v = sym (none_below k es (below_more k e.0 (keys_of es) is sorted.0)) ∙ later in cc none)
      by_order Equal is more = rw is refl
      by_order Greater is more = let later : lookup (is_at (name_cmp k)) es ≡ Some v = rw is at found in rw is (ap (λ l. e ∷ l) (more later))

pub named_put : (spaces : List (List ℕ × Namespace)) (ns : List ℕ) (w : Namespace) → AreNamed spaces → w.bound.namespace ≡ ns → AreNamed (insert_entry name_cmp spaces ns w)
named_put [] ns w named is = (is, tt)
named_put (s ∷ spaces) ns w named is =
    elim (name_cmp ns s.0) as (λ r. name_cmp ns s.0 ≡ r → AreNamed (match_ordering r ((ns, w) ∷ s ∷ spaces) ((s.0, w) ∷ spaces) (s ∷ insert_entry name_cmp spaces ns w))) [
      | Less ↦ λ at. (is, named)
      | Equal ↦ λ at. (is ∙ exact_bytes ns s.0 at, named.1)
      | Greater ↦ λ at. (named.0, named_put spaces ns w named.1 is)
    ] refl

pub spread_put : (spaces after : List (List ℕ × Namespace)) (ns : List ℕ) (w : Namespace) → AreDistinct spaces → w.bound.namespace ≡ ns → after ≡ insert_entry name_cmp spaces ns w → AreDistinct after
spread_put spaces after ns w spread is put =
    rw put (record { sorted = put_keeps name_cmp name_total spaces ns w spread.sorted; named = named_put spaces ns w spread.named is })

pub named_at : (spaces : List (List ℕ × Namespace)) (ns : List ℕ) (v : Namespace) → AreNamed spaces → lookup (is_at (name_cmp ns)) spaces ≡ Some v → v.bound.namespace ≡ ns
named_at [] ns v named found = absurd (let none : None ≡ Some v = found in cc none)
named_at (s ∷ spaces) ns v named found = by_order (name_cmp ns s.0) refl (named_at spaces ns v named.1)
  where
    by_order : (r : Ordering) → name_cmp ns s.0 ≡ r → (lookup (is_at (name_cmp ns)) spaces ≡ Some v → v.bound.namespace ≡ ns) → v.bound.namespace ≡ ns
    by_order Less is more = more (rw is at found)
    by_order Equal is more =
        let same : Some s.1 ≡ Some v = rw is at found in let at : s.1 ≡ v = cc same in
        ap (λ (x : Namespace). x.bound.namespace) (sym at) ∙ named.0 ∙ sym (exact_bytes ns s.0 is)
    by_order Greater is more = more (rw is at found)

-- ---- all places

place : List ℕ → List ℕ → NamespacedName
place ns name = record { namespace = ns; name = name }

module _ {X : Type 0} (g : Namespace → List (List ℕ × X)) where
  both_lists : (P : NamespacedName → Type 0) (xs ys : List (NamespacedName × X)) → AllByRecursion P (keys_of xs) → AllByRecursion P (keys_of ys) → AllByRecursion P (keys_of (xs ++ ys))
  both_lists P [] ys all more = more
  both_lists P (x ∷ xs) ys all more = (all.0, both_lists P xs ys all.1 more)

  all_placed : (ns name y : List ℕ) → name_cmp ns y ≡ Less → (xs : List (List ℕ × X)) → AllByRecursion (λ p. place_cmp (place ns name) p ≡ Less) (keys_of (map (placed y) xs))
  unfolding place
  all_placed ns name y is [] = tt
  all_placed ns name y is (x ∷ xs) = (rw is refl, all_placed ns name y is xs)

  all_behind : (ns name : List ℕ) (spaces : List (List ℕ × Namespace)) → AllByRecursion (λ y. name_cmp ns y ≡ Less) (keys_of spaces)
      → AllByRecursion (λ p. place_cmp (place ns name) p ≡ Less) (keys_of (in_all g spaces))
  all_behind ns name [] all = tt
  all_behind ns name (s ∷ spaces) all =
      both_lists (λ p. place_cmp (place ns name) p ≡ Less) (map (placed s.0) (g s.1)) (in_all g spaces) (all_placed ns name s.0 all.0 (g s.1)) (all_behind ns name spaces all.1)

module _ {X : Type 0} where
  insert_before : (p : NamespacedName) (x : X) (es : List (NamespacedName × X)) → AllByRecursion (λ q. place_cmp p q ≡ Less) (keys_of es) → insert_entry place_cmp es p x ≡ (p, x) ∷ es
  insert_before p x [] all = refl
  insert_before p x (e ∷ es) all = rw all.0 refl

  remove_before : (p : NamespacedName) (es : List (NamespacedName × X)) → AllByRecursion (λ q. place_cmp p q ≡ Less) (keys_of es) → remove_entry (is_at (place_cmp p)) es ≡ es
  remove_before p [] all = refl
  remove_before p (e ∷ es) all = rw all.0 (ap (λ l. e ∷ l) (remove_before p es all.1))

  insert_past : (ns name y : List ℕ) (x : X) → name_cmp ns y ≡ Greater → (xs : List (List ℕ × X)) (rest : List (NamespacedName × X))
      → insert_entry place_cmp (map (placed y) xs ++ rest) (place ns name) x ≡ map (placed y) xs ++ insert_entry place_cmp rest (place ns name) x
  unfolding place
  insert_past ns name y x is [] rest = refl
  insert_past ns name y x is (e ∷ xs) rest = rw is (ap (λ l. placed y e ∷ l) (insert_past ns name y x is xs rest))

  remove_past : (ns name y : List ℕ) → name_cmp ns y ≡ Greater → (xs : List (List ℕ × X)) (rest : List (NamespacedName × X))
      → remove_entry (is_at (place_cmp (place ns name))) (map (placed y) xs ++ rest) ≡ map (placed y) xs ++ remove_entry (is_at (place_cmp (place ns name))) rest
  unfolding place
  remove_past ns name y is [] rest = refl
  remove_past ns name y is (e ∷ xs) rest = rw is (ap (λ l. placed y e ∷ l) (remove_past ns name y is xs rest))

  insert_here : (ns name y : List ℕ) (x : X) → name_cmp ns y ≡ Equal → (rest : List (NamespacedName × X)) → AllByRecursion (λ q. place_cmp (place ns name) q ≡ Less) (keys_of rest)
      → (xs : List (List ℕ × X)) → map (placed y) (insert_entry name_cmp xs name x) ++ rest ≡ insert_entry place_cmp (map (placed y) xs ++ rest) (place ns name) x
  unfolding place
  insert_here ns name y x is rest all [] =
      ap (λ n. (record { namespace = n; name = name }, x) ∷ rest) (sym (exact_bytes ns y is)) ∙ sym (insert_before (place ns name) x rest all)
  insert_here ns name y x is rest all (e ∷ xs) = by_order (name_cmp name e.0) refl (insert_here ns name y x is rest all xs)
    where
      by_order : (r : Ordering) → name_cmp name e.0 ≡ r → map (placed y) (insert_entry name_cmp xs name x) ++ rest ≡ insert_entry place_cmp (map (placed y) xs ++ rest) (place ns name) x
          → map (placed y) (insert_entry name_cmp (e ∷ xs) name x) ++ rest ≡ insert_entry place_cmp (placed y e ∷ (map (placed y) xs ++ rest)) (place ns name) x
      by_order Less at more = rw (is, at) (ap (λ n. (record { namespace = n; name = name }, x) ∷ placed y e ∷ (map (placed y) xs ++ rest)) (sym (exact_bytes ns y is)))
      by_order Equal at more = rw (is, at) refl
      by_order Greater at more = rw (is, at) (ap (λ l. placed y e ∷ l) more)

  remove_here : (ns name y : List ℕ) → name_cmp ns y ≡ Equal → (rest : List (NamespacedName × X)) → AllByRecursion (λ q. place_cmp (place ns name) q ≡ Less) (keys_of rest)
      → (xs : List (List ℕ × X)) → map (placed y) (remove_entry (is_at (name_cmp name)) xs) ++ rest ≡ remove_entry (is_at (place_cmp (place ns name))) (map (placed y) xs ++ rest)
  unfolding place
  remove_here ns name y is rest all [] = sym (remove_before (place ns name) rest all)
  remove_here ns name y is rest all (e ∷ xs) = by_order (name_cmp name e.0) refl (remove_here ns name y is rest all xs)
    where
      by_order : (r : Ordering) → name_cmp name e.0 ≡ r → map (placed y) (remove_entry (is_at (name_cmp name)) xs) ++ rest ≡ remove_entry (is_at (place_cmp (place ns name))) (map (placed y) xs ++ rest)
          → map (placed y) (remove_entry (is_at (name_cmp name)) (e ∷ xs)) ++ rest ≡ remove_entry (is_at (place_cmp (place ns name))) (placed y e ∷ (map (placed y) xs ++ rest))
      by_order Less at more = rw (is, at) (ap (λ l. placed y e ∷ l) more)
      by_order Equal at more = rw (is, at) refl
      by_order Greater at more = rw (is, at) (ap (λ l. placed y e ∷ l) more)

-- ---- one namespace put anew

module _ {X : Type 0} (g : Namespace → List (List ℕ × X)) where
  pub put_in_all : (ns name : List ℕ) (x : X) (w : Namespace) (spaces : List (List ℕ × Namespace)) → IsStrictlySortedBy name_cmp (keys_of spaces)
      → g w ≡ insert_entry name_cmp (in_one g (lookup (is_at (name_cmp ns)) spaces)) name x
      → in_all g (insert_entry name_cmp spaces ns w) ≡ insert_entry place_cmp (in_all g spaces) (record { namespace = ns; name = name }) x
  unfolding IsStrictlySortedBy place
  put_in_all ns name x w [] sorted is = ap (λ l. map (placed ns) l ++ []) is
  put_in_all ns name x w (s ∷ spaces) sorted is = by_order (name_cmp ns s.0) refl (put_in_all ns name x w spaces sorted.1)
    where
      by_order : (r : Ordering) → name_cmp ns s.0 ≡ r
          → (g w ≡ insert_entry name_cmp (in_one g (lookup (is_at (name_cmp ns)) spaces)) name x → in_all g (insert_entry name_cmp spaces ns w) ≡ insert_entry place_cmp (in_all g spaces) (place ns name) x)
          → in_all g (insert_entry name_cmp (s ∷ spaces) ns w) ≡ insert_entry place_cmp (map (placed s.0) (g s.1) ++ in_all g spaces) (place ns name) x
      by_order Less at more =
          let behind : AllByRecursion (λ y. name_cmp ns y ≡ Less) (keys_of (s ∷ spaces)) = (at, below_more ns s.0 (keys_of spaces) at sorted.0) in
          let alone : g w ≡ (name, x) ∷ [] = is ∙ ap (λ o. insert_entry name_cmp (in_one g o) name x) (none_below ns (s ∷ spaces) behind) in
          rw at (ap (λ l. map (placed ns) l ++ in_all g (s ∷ spaces)) alone ∙ sym (insert_before (place ns name) x (in_all g (s ∷ spaces)) (all_behind g ns name (s ∷ spaces) behind)))
      by_order Equal at more =
          let here : g w ≡ insert_entry name_cmp (g s.1) name x = rw at at is in
          rw at (ap (λ l. map (placed s.0) l ++ in_all g spaces) here
          ∙ insert_here ns name s.0 x at (in_all g spaces) (all_behind g ns name spaces (equal_more ns s.0 (keys_of spaces) at sorted.0)) (g s.1))
      by_order Greater at more =
          let later : g w ≡ insert_entry name_cmp (in_one g (lookup (is_at (name_cmp ns)) spaces)) name x = rw at at is in
          rw at (ap (λ l. map (placed s.0) (g s.1) ++ l) (more later) ∙ sym (insert_past ns name s.0 x at (g s.1) (in_all g spaces)))

  pub taken_in_all : (ns name : List ℕ) (w : Namespace) (spaces : List (List ℕ × Namespace)) → IsStrictlySortedBy name_cmp (keys_of spaces)
      → g w ≡ remove_entry (is_at (name_cmp name)) (in_one g (lookup (is_at (name_cmp ns)) spaces))
      → in_all g (insert_entry name_cmp spaces ns w) ≡ remove_entry (is_at (place_cmp (record { namespace = ns; name = name }))) (in_all g spaces)
  unfolding IsStrictlySortedBy place
  taken_in_all ns name w [] sorted is = ap (λ l. map (placed ns) l ++ []) is
  taken_in_all ns name w (s ∷ spaces) sorted is = by_order (name_cmp ns s.0) refl (taken_in_all ns name w spaces sorted.1)
    where
      by_order : (r : Ordering) → name_cmp ns s.0 ≡ r
          → (g w ≡ remove_entry (is_at (name_cmp name)) (in_one g (lookup (is_at (name_cmp ns)) spaces)) → in_all g (insert_entry name_cmp spaces ns w) ≡ remove_entry (is_at (place_cmp (place ns name))) (in_all g spaces))
          → in_all g (insert_entry name_cmp (s ∷ spaces) ns w) ≡ remove_entry (is_at (place_cmp (place ns name))) (map (placed s.0) (g s.1) ++ in_all g spaces)
      by_order Less at more =
          let behind : AllByRecursion (λ y. name_cmp ns y ≡ Less) (keys_of (s ∷ spaces)) = (at, below_more ns s.0 (keys_of spaces) at sorted.0) in
          let alone : g w ≡ [] = is ∙ ap (λ o. remove_entry (is_at (name_cmp name)) (in_one g o)) (none_below ns (s ∷ spaces) behind) in
          rw at (ap (λ l. map (placed ns) l ++ in_all g (s ∷ spaces)) alone ∙ sym (remove_before (place ns name) (in_all g (s ∷ spaces)) (all_behind g ns name (s ∷ spaces) behind)))
      by_order Equal at more =
          let here : g w ≡ remove_entry (is_at (name_cmp name)) (g s.1) = rw at at is in
          rw at (ap (λ l. map (placed s.0) l ++ in_all g spaces) here
          ∙ remove_here ns name s.0 at (in_all g spaces) (all_behind g ns name spaces (equal_more ns s.0 (keys_of spaces) at sorted.0)) (g s.1))
      by_order Greater at more =
          let later : g w ≡ remove_entry (is_at (name_cmp name)) (in_one g (lookup (is_at (name_cmp ns)) spaces)) = rw at at is in
          rw at (ap (λ l. map (placed s.0) (g s.1) ++ l) (more later) ∙ sym (remove_past ns name s.0 at (g s.1) (in_all g spaces)))

  -- where a namespace is not there nothing is taken out of it
  pub none_taken : (ns name : List ℕ) (spaces : List (List ℕ × Namespace)) → lookup (is_at (name_cmp ns)) spaces ≡ None
      → in_all g spaces ≡ remove_entry (is_at (place_cmp (record { namespace = ns; name = name }))) (in_all g spaces)
  none_taken ns name [] none = refl
  none_taken ns name (s ∷ spaces) none = by_order (name_cmp ns s.0) refl (none_taken ns name spaces)
    where
      passed : name_cmp ns s.0 ≡ Equal → Less ≡ Greater
      passed at = absurd (let some : Some s.1 ≡ None = rw at at none in cc some)

      past : (is_eq (name_cmp ns s.0) ≡ false) → (xs : List (List ℕ × X)) (rest : List (NamespacedName × X))
          → map (placed s.0) xs ++ remove_entry (is_at (place_cmp (record { namespace = ns; name = name }))) rest ≡ remove_entry (is_at (place_cmp (record { namespace = ns; name = name }))) (map (placed s.0) xs ++ rest)
      past apart [] rest = refl
      past apart (e ∷ xs) rest = by (name_cmp ns s.0) refl (past apart xs rest)
        where
          by : (r : Ordering) → name_cmp ns s.0 ≡ r
              → map (placed s.0) xs ++ remove_entry (is_at (place_cmp (record { namespace = ns; name = name }))) rest ≡ remove_entry (is_at (place_cmp (record { namespace = ns; name = name }))) (map (placed s.0) xs ++ rest)
              → map (placed s.0) (e ∷ xs) ++ remove_entry (is_at (place_cmp (record { namespace = ns; name = name }))) rest ≡ remove_entry (is_at (place_cmp (record { namespace = ns; name = name }))) (map (placed s.0) (e ∷ xs) ++ rest)
          by Less at more = rw at (ap (λ l. placed s.0 e ∷ l) more)
          by Equal at more = absurd (let never : true ≡ false = rw at at apart in cc never)
          by Greater at more = rw at (ap (λ l. placed s.0 e ∷ l) more)

      by_order : (r : Ordering) → name_cmp ns s.0 ≡ r
          → (lookup (is_at (name_cmp ns)) spaces ≡ None → in_all g spaces ≡ remove_entry (is_at (place_cmp (record { namespace = ns; name = name }))) (in_all g spaces))
          → in_all g (s ∷ spaces) ≡ remove_entry (is_at (place_cmp (record { namespace = ns; name = name }))) (map (placed s.0) (g s.1) ++ in_all g spaces)
      by_order Less at more = let later : lookup (is_at (name_cmp ns)) spaces ≡ None = rw at at none in ap (λ l. map (placed s.0) (g s.1) ++ l) (more later) ∙ past (rw at refl) (g s.1) (in_all g spaces)
      by_order Equal at more = absurd (let some : Some s.1 ≡ None = rw at at none in cc some)
      by_order Greater at more = let later : lookup (is_at (name_cmp ns)) spaces ≡ None = rw at at none in ap (λ l. map (placed s.0) (g s.1) ++ l) (more later) ∙ past (rw at refl) (g s.1) (in_all g spaces)

  pub same_in_all : (ns : List ℕ) (w : Namespace) (spaces : List (List ℕ × Namespace)) → IsStrictlySortedBy name_cmp (keys_of spaces)
      → g w ≡ in_one g (lookup (is_at (name_cmp ns)) spaces) → in_all g (insert_entry name_cmp spaces ns w) ≡ in_all g spaces
  unfolding IsStrictlySortedBy
  same_in_all ns w [] sorted is = ap (λ l. map (placed ns) l ++ []) is
  same_in_all ns w (s ∷ spaces) sorted is = by_order (name_cmp ns s.0) refl (same_in_all ns w spaces sorted.1)
    where
      by_order : (r : Ordering) → name_cmp ns s.0 ≡ r
          → (g w ≡ in_one g (lookup (is_at (name_cmp ns)) spaces) → in_all g (insert_entry name_cmp spaces ns w) ≡ in_all g spaces)
          → in_all g (insert_entry name_cmp (s ∷ spaces) ns w) ≡ map (placed s.0) (g s.1) ++ in_all g spaces
      by_order Less at more =
          let behind : AllByRecursion (λ y. name_cmp ns y ≡ Less) (keys_of (s ∷ spaces)) = (at, below_more ns s.0 (keys_of spaces) at sorted.0) in
          rw at (ap (λ l. map (placed ns) l ++ in_all g (s ∷ spaces)) (is ∙ ap (in_one g) (none_below ns (s ∷ spaces) behind)))
      by_order Equal at more = let here : g w ≡ g s.1 = rw at at is in rw at (ap (λ l. map (placed s.0) l ++ in_all g spaces) here)
      by_order Greater at more =
          let later : g w ≡ in_one g (lookup (is_at (name_cmp ns)) spaces) = rw at at is in
          rw at (ap (λ l. map (placed s.0) (g s.1) ++ l) (more later))

  -- ---- what stands in one namespace

  filter_both : (p : NamespacedName × X → Bool) (xs ys : List (NamespacedName × X)) → filter p (xs ++ ys) ≡ filter p xs ++ filter p ys
  filter_both p [] ys = refl
  filter_both p (x ∷ xs) ys =
      elim (p x) as (λ t. (if t then x ∷ filter p (xs ++ ys) else filter p (xs ++ ys)) ≡ (if t then x ∷ filter p xs else filter p xs) ++ filter p ys) [
        | true ↦ ap (λ l. x ∷ l) (filter_both p xs ys)
        | false ↦ filter_both p xs ys
      ]

  all_here : (ns y : List ℕ) (xs : List (List ℕ × X)) → bytes_eq y ns ≡ true → filter (λ e. is_in ns e.0) (map (placed y) xs) ≡ map (placed y) xs
  all_here ns y [] is = refl
  all_here ns y (x ∷ xs) is = rw is (ap (λ l. placed y x ∷ l) (all_here ns y xs is))

  none_here : (ns y : List ℕ) (xs : List (List ℕ × X)) → bytes_eq y ns ≡ false → filter (λ e. is_in ns e.0) (map (placed y) xs) ≡ []
  none_here ns y [] is = refl
  none_here ns y (x ∷ xs) is = rw is (none_here ns y xs is)

  pub in_space : (ns : List ℕ) (spaces : List (List ℕ × Namespace)) → IsStrictlySortedBy name_cmp (keys_of spaces)
      → filter (λ e. is_in ns e.0) (in_all g spaces) ≡ map (placed ns) (in_one g (lookup (is_at (name_cmp ns)) spaces))
  unfolding IsStrictlySortedBy
  in_space ns [] sorted = refl
  in_space ns (s ∷ spaces) sorted =
      filter_both (λ e. is_in ns e.0) (map (placed s.0) (g s.1)) (in_all g spaces) ∙ by_order (name_cmp ns s.0) refl (in_space ns spaces sorted.1)
    where
      test : (r : Ordering) → name_cmp ns s.0 ≡ r → bytes_eq s.0 ns ≡ is_eq r
      test r at = turned s.0 ns ∙ sym (is_eq-slice_cmp ns s.0) ∙ ap is_eq at

      by_order : (r : Ordering) → name_cmp ns s.0 ≡ r → filter (λ e. is_in ns e.0) (in_all g spaces) ≡ map (placed ns) (in_one g (lookup (is_at (name_cmp ns)) spaces))
          → filter (λ e. is_in ns e.0) (map (placed s.0) (g s.1)) ++ filter (λ e. is_in ns e.0) (in_all g spaces) ≡ map (placed ns) (in_one g (lookup (is_at (name_cmp ns)) (s ∷ spaces)))
      by_order Less at more = rw (none_here ns s.0 (g s.1) (test Less at), at) more
      by_order Equal at more =
          let same : ns ≡ s.0 = exact_bytes ns s.0 at in
          let none : lookup (is_at (name_cmp ns)) spaces ≡ None = none_below ns spaces (equal_more ns s.0 (keys_of spaces) at sorted.0) in
          ap (λ l. l ++ filter (λ e. is_in ns e.0) (in_all g spaces)) (all_here ns s.0 (g s.1) (test Equal at))
          ∙ ap (λ l. map (placed s.0) (g s.1) ++ l) (more ∙ ap (λ o. map (placed ns) (in_one g o)) none)
          ∙ append-nil (map (placed s.0) (g s.1))
          ∙ ap (λ n. map (placed n) (g s.1)) (sym same)
          ∙ rw at refl
      by_order Greater at more = rw (none_here ns s.0 (g s.1) (test Greater at), at) more
