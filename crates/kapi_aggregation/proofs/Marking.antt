-- The names that a note puts in; it keeps those that are there.
use Rattle.std.proofs.Common.{◌≡◌, inl, inr, ℕ, List, [], ◌∷◌, ◌++◌, Bool, true, false, cond, ◌&&◌, ◌||◌, Option, Some, None, refl, sym, ap, ◌∙◌, subst}
use Rattle.std.proofs.lemmas.Cmp.{tied_itself}
use Rattle.std.proofs.lemmas.Map.Text.{is_eq-slice_cmp}
use Rattle.std.specs.BTreeMap.{is_at}
use Rattle.std.specs.BTreeMap.Range.{range_contains}
use Rattle.std.specs.BTreeSet.{insert_key}
use Rattle.std.specs.Cmp.{nat_cmp_total}
use Rattle.std.specs.Cmp.Lexicographic.{slice_cmp}
use Rattle.std.specs.List.{AllByRecursion, fold, list_all, list_any}
use Rattle.std.specs.Ordering.{is_eq, is_gt, is_le, match_ordering, nat_cmp, ordering_then}
use Rattle.std.specs.Str.{bytes_eq}
use Rattle.std.specs.declared.cmp.Ordering.{Ordering}
use Rattle.std.specs.declared.cmp.Ordering.TheVariants.{Less, Equal, Greater}
use Rattle.std.specs.declared.ops.Bound.TheVariants.{Included, Excluded}
use Rattle.serde_json.specs.Data.{Data}
use Rattle.std.specs.Map.{lookup}
use Rattle.std.proofs.lemmas.Bool.{and_from, and_parts, or_left, or_right}
use Rattle.kapi_model.specs.Selector.{has_label, is_text, label_in, matches, value_in}
use Rattle.kapi_model.specs.declared.aggregation_rule.AggregationRule.{AggregationRule}
use Rattle.kapi_model.specs.declared.selector.Label.{Label}
use Rattle.kapi_model.specs.declared.selector.Selector.{Selector}
use Rattle.kapi_store.specs.Keys.{is_key}
use Rattle.kapi_store.specs.Plain.{PlainChange}
use Rattle.kapi_store.specs.Labels.{labels_of}
use Rattle.kapi_store.specs.declared.key.Key.{Key}
use Rattle.kapi_aggregation.specs.Roles.{Labelled, is_cluster_role, labelled_at, labels_in, selectors_of, takes_from}
use Rattle.kapi_aggregation.specs.Marks.{IsGiven, IsKnown, Keeps, KeepsAll, KeepsGivers, KeepsTakers, Tracked, end_at, first_text, giver_of, givers_after, is_known, is_marked, label_list, label_text, learn, learn_rule, learned, listed_if, mark_all, mark_change, mark_changed, mark_object, mark_taker, mark_takers, names_for, noted, role_at, rule_left, start_at, taker_cmp, taker_of, takers_at, takers_in, with_all_left, with_giver, with_left, with_mark, with_names_at, with_takers}
use Rattle.kapi_aggregation.specs.declared.takers.Taker.{Taker}
use Rattle.kapi_aggregation.proofs.Lists.{all_at, all_from, any_of, has_kept, itself, same_text}
use Rattle.kapi_aggregation.specs.Members.{Has}

or_more : (a b c : Bool) → (b ≡ true → c ≡ true) → (a || b) ≡ true → (a || c) ≡ true
or_more true b c more h = refl
or_more false b c more h = more h

compares : (k : List ℕ) → is_eq (slice_cmp nat_cmp k k) ≡ true
compares k = is_eq-slice_cmp k k ∙ itself k

equal : (o : Ordering) → is_eq o ≡ true → o ≡ Equal
equal Less h = absurd (cc h)
equal Equal h = refl
equal Greater h = absurd (cc h)

same_name : (a b : List ℕ) → slice_cmp nat_cmp a b ≡ Equal → a ≡ b
same_name a b h = same_text a b (sym (is_eq-slice_cmp a b) ∙ ap is_eq h)

same_taker : (t u : Taker) → is_eq (taker_cmp t u) ≡ true → t ≡ u
same_taker t u h = by_label (slice_cmp nat_cmp t.label u.label) refl h
  where
    by_label : (o : Ordering) → slice_cmp nat_cmp t.label u.label ≡ o → is_eq (ordering_then o (slice_cmp nat_cmp t.name u.name)) ≡ true → t ≡ u
    by_label Less is k = absurd (cc k)
    by_label Equal is k = λ i. record { label = same_name t.label u.label is i; name = same_name t.name u.name (equal (slice_cmp nat_cmp t.name u.name) k) i }
    by_label Greater is k = absurd (cc k)

-- ---- a key that is put in its order

module _ {K : Type 0} (cmp : K → K → Ordering) where
  -- the key is among the others
  abbrev is_in : List K → K → Bool
  is_in ks k = list_any (is_at (cmp k)) ks

  pub put_in : (compares : (k : K) → is_eq (cmp k k) ≡ true) → (ks : List K) (k : K) → is_in (insert_key cmp ks k) k ≡ true
  put_in compares [] k = or_left _ false (compares k)
  put_in compares (x ∷ xs) k = by_order (cmp k x) refl (put_in compares xs k)
    where
      by_order : (o : Ordering) → cmp k x ≡ o → is_in (insert_key cmp xs k) k ≡ true → is_in (match_ordering o (k ∷ x ∷ xs) (x ∷ xs) (x ∷ insert_key cmp xs k)) k ≡ true
      by_order Less is rest = or_left _ _ (compares k)
      by_order Equal is rest = or_left _ _ (ap is_eq is)
      by_order Greater is rest = or_right _ _ rest

  pub put_keeps : (ks : List K) (k n : K) → is_in ks n ≡ true → is_in (insert_key cmp ks k) n ≡ true
  put_keeps [] k n h = absurd (cc h)
  put_keeps (x ∷ xs) k n h = by_order (cmp k x) (put_keeps xs k n)
    where
      by_order : (o : Ordering) → (is_in xs n ≡ true → is_in (insert_key cmp xs k) n ≡ true) → is_in (match_ordering o (k ∷ x ∷ xs) (x ∷ xs) (x ∷ insert_key cmp xs k)) n ≡ true
      by_order Less rest = or_right _ _ h
      by_order Equal rest = h
      by_order Greater rest = or_more (is_eq (cmp n x)) (is_in xs n) _ rest h

-- ---- one mark

pub with_mark_marks : (ms : List (List ℕ)) (k : List ℕ) → is_marked (with_mark ms k) k ≡ true
with_mark_marks ms k = by_case (is_marked ms k) refl
  where
    by_case : (b : Bool) → is_marked ms k ≡ b → is_marked (cond b ms (insert_key (slice_cmp nat_cmp) ms k)) k ≡ true
    by_case true is = is
    by_case false is = put_in (slice_cmp nat_cmp) compares ms k

pub with_mark_keeps : (ms : List (List ℕ)) (k : List ℕ) → Keeps ms (with_mark ms k)
with_mark_keeps ms k n h = by_case (is_marked ms k)
  where
    by_case : (b : Bool) → is_marked (cond b ms (insert_key (slice_cmp nat_cmp) ms k)) n ≡ true
    by_case true = h
    by_case false = put_keeps (slice_cmp nat_cmp) ms k n h

-- ---- takers

taker_compares : (t : Taker) → is_eq (taker_cmp t t) ≡ true
taker_compares t = rw (equal (slice_cmp nat_cmp t.label t.label) (compares t.label)) (compares t.name)

-- what is put in at the label of each of some items is known by each
module _ {X : Type 0} (text : X → List ℕ) (name : List ℕ) where
  abbrev at_item : X → Taker
  at_item x = record { label = text x; name = name }

  pub each_keeps : (ts : List Taker) (xs : List X) → KeepsTakers ts (fold (λ us x. insert_key taker_cmp us (at_item x)) ts xs)
  each_keeps ts [] t h = h
  each_keeps ts (x ∷ xs) t h = each_keeps (insert_key taker_cmp ts (at_item x)) xs t (put_keeps taker_cmp ts (at_item x) t h)

  pub each_known : (ts : List Taker) (xs : List X) (x : X) → Has xs x → is_known (fold (λ us x. insert_key taker_cmp us (at_item x)) ts xs) (at_item x) ≡ true
  each_known ts [] x has = absurd has
  each_known ts (y ∷ xs) x (inl same) = each_keeps (insert_key taker_cmp ts (at_item y)) xs (at_item x) (rw same (put_in taker_cmp taker_compares ts (at_item x)))
  each_known ts (y ∷ xs) x (inr has) = each_known (insert_key taker_cmp ts (at_item y)) xs x has

-- a cluster role that is put in is known by each of its selectors
pub selectors_keep : (ts : List Taker) (name : List ℕ) (ss : List Selector) → KeepsTakers ts (with_takers ts name ss)
selectors_keep ts name ss = each_keeps (λ (s : Selector). first_text s.match_labels) name ts ss

pub selectors_known : (ts : List Taker) (name : List ℕ) (ss : List Selector) → AllByRecursion (λ s. is_known (with_takers ts name ss) (taker_of name s) ≡ true) ss
selectors_known ts name ss = all_from (λ s. is_known (with_takers ts name ss) (taker_of name s) ≡ true) ss (each_known (λ (s : Selector). first_text s.match_labels) name ts ss)

-- more takers know as well
pub still_known : (old new : List Taker) (r : Labelled) → KeepsTakers old new → IsKnown old r → IsKnown new r
still_known old new r keeps known =
    all_from (λ s. is_known new (taker_of r.name s) ≡ true) (selectors_of r)
    (λ s has. keeps (taker_of r.name s) (all_at (λ (q : Selector). is_known old (taker_of r.name q) ≡ true) (selectors_of r) s known has))

-- each of some cluster roles is known
pub roles_known : (ts : List Taker) (rs : List Labelled) (r : Labelled) → Has rs r → IsKnown (fold (λ us q. with_takers us q.name (selectors_of q)) ts rs) r
roles_known ts [] r has = absurd has
roles_known ts (q ∷ rs) r (inl same) =
    still_known (with_takers ts q.name (selectors_of q)) _ r (roles_keep (with_takers ts q.name (selectors_of q)) rs) (rw same (selectors_known ts r.name (selectors_of r)))
  where
    roles_keep : (us : List Taker) (ps : List Labelled) → KeepsTakers us (fold (λ vs p. with_takers vs p.name (selectors_of p)) us ps)
    roles_keep us [] t h = h
    roles_keep us (p ∷ ps) t h = roles_keep (with_takers us p.name (selectors_of p)) ps t (selectors_keep us p.name (selectors_of p) t h)
roles_known ts (q ∷ rs) r (inr has) = roles_known (with_takers ts q.name (selectors_of q)) rs r has

-- ---- the names at a label

names_keep : (ns : List (List ℕ)) (ts : List Taker) → Keeps ns (fold (λ ms t. with_mark ms t.name) ns ts)
names_keep ns [] n h = h
names_keep ns (t ∷ ts) n h = names_keep (with_mark ns t.name) ts n (with_mark_keeps ns t.name n h)

names_have : (ns : List (List ℕ)) (ts : List Taker) (t : Taker) → Has ts t → is_marked (fold (λ ms t. with_mark ms t.name) ns ts) t.name ≡ true
names_have ns [] t has = absurd has
names_have ns (u ∷ ts) t (inl same) = names_keep (with_mark ns u.name) ts t.name (rw same (with_mark_marks ns t.name))
names_have ns (u ∷ ts) t (inr has) = names_have (with_mark ns u.name) ts t has

byte_same : (b : ℕ) → nat_cmp b b ≡ Equal
byte_same b = tied_itself nat_cmp_total b

before_end : (l : List ℕ) → slice_cmp nat_cmp (l ++ 0 ∷ []) l ≡ Greater
before_end [] = refl
before_end (b ∷ bs) = rw (byte_same b) (before_end bs)

least : (n : List ℕ) → is_le (slice_cmp nat_cmp [] n) ≡ true
least [] = refl
least (b ∷ bs) = refl

-- what is at a label is found there
lies_at : (l n : List ℕ) → range_contains taker_cmp (Included (start_at l)) (Excluded (end_at l)) (record { label = l; name = n }) ≡ true
lies_at l n = rw (equal (slice_cmp nat_cmp l l) (compares l), before_end l) (and_from _ true (least n) refl)

less_than_end : (l : List ℕ) → slice_cmp nat_cmp l (l ++ 0 ∷ []) ≡ Less
less_than_end [] = refl
less_than_end (b ∷ bs) = rw (byte_same b) (less_than_end bs)

-- the takers at a label begin before they end
pub start_before_end : (l : List ℕ) → is_gt (taker_cmp (start_at l) (end_at l)) ≡ false
start_before_end l = rw (less_than_end l) refl

-- a known taker is one of those that are kept
known_has : (ts : List Taker) (t : Taker) → is_known ts t ≡ true → Has ts t
known_has [] t h = absurd (cc h)
known_has (u ∷ ts) t h = by_case (is_eq (taker_cmp t u)) refl (known_has ts t) h
  where
    by_case : (b : Bool) → is_eq (taker_cmp t u) ≡ b → (is_known ts t ≡ true → Has ts t) → (b || is_known ts t) ≡ true → Has (u ∷ ts) t
    by_case true same rest k = inl (sym (same_taker t u same))
    by_case false same rest k = inr (rest k)

names_at_keep : (ts : List Taker) (ns : List (List ℕ)) (l : List ℕ) → Keeps ns (with_names_at ts ns l)
names_at_keep ts ns l = names_keep ns (takers_at ts l)

pub names_at_have : (ts : List Taker) (ns : List (List ℕ)) (l n : List ℕ) → is_known ts (record { label = l; name = n }) ≡ true → is_marked (with_names_at ts ns l) n ≡ true
names_at_have ts ns l n known =
    let t : Taker = record { label = l; name = n } in
    names_have ns (takers_at ts l) t (has_kept (range_contains taker_cmp (Included (start_at l)) (Excluded (end_at l))) ts t (known_has ts t known) (lies_at l n))

labels_keep : (ts : List Taker) (ns : List (List ℕ)) (ls : List Label) → Keeps ns (fold (λ ms l. with_names_at ts ms (label_text l)) ns ls)
labels_keep ts ns [] n h = h
labels_keep ts ns (l ∷ ls) n h = labels_keep ts (with_names_at ts ns (label_text l)) ls n (names_at_keep ts ns (label_text l) n h)

labels_have : (ts : List Taker) (ns : List (List ℕ)) (ls : List Label) (l : Label) (n : List ℕ) → Has ls l → is_known ts (record { label = label_text l; name = n }) ≡ true
    → is_marked (fold (λ ms l. with_names_at ts ms (label_text l)) ns ls) n ≡ true
labels_have ts ns [] l n has known = absurd has
labels_have ts ns (k ∷ ls) l n (inl same) known = labels_keep ts (with_names_at ts ns (label_text k)) ls n (rw same (names_at_have ts ns (label_text l) n known))
labels_have ts ns (k ∷ ls) l n (inr has) known = labels_have ts (with_names_at ts ns (label_text k)) ls l n has known

-- a label that is found is among the labels
label_there : (ls : List Label) (l : Label) → is_text (value_in ls l.key) l.value ≡ true → Has ls l
label_there [] l h = absurd (cc h)
label_there (k ∷ ls) l h = by_key (bytes_eq k.key l.key) refl (label_there ls l) h
  where
    same_label : k.key ≡ l.key → k.value ≡ l.value → k ≡ l
    same_label key value = λ i. record { key = key i; value = value i }

    by_key : (b : Bool) → bytes_eq k.key l.key ≡ b → (is_text (value_in ls l.key) l.value ≡ true → Has ls l) → is_text (cond b (Some k.value) (value_in ls l.key)) l.value ≡ true → Has (k ∷ ls) l
    by_key true key rest h = inl (same_label (same_text k.key l.key key) (same_text k.value l.value h))
    by_key false key rest h = inr (rest h)

module _ (ts : List Taker) (tree : Data) (kept : value_in (labels_of tree) ≡ label_in (labels_in tree)) where
  first_found : (n : List ℕ) (s : Selector) → is_known ts (taker_of n s) ≡ true → matches s (labels_in tree) ≡ true → is_marked (names_for ts (labels_of tree)) n ≡ true
  first_found n s known h = by_labels s.match_labels refl
    where
      by_labels : (ls : List Label) → s.match_labels ≡ ls → is_marked (names_for ts (labels_of tree)) n ≡ true
      by_labels [] is = labels_keep ts (with_names_at ts [] []) (labels_of tree) n (names_at_have ts [] [] n (subst (λ ks. is_known ts (record { label = first_text ks; name = n }) ≡ true) is known))
      by_labels (l ∷ ls) is =
          let all : list_all (has_label (labels_in tree)) (l ∷ ls) ≡ true = ap (list_all (has_label (labels_in tree))) (sym is) ∙ (and_parts (list_all (has_label (labels_in tree)) s.match_labels) _ h).0 in
          let found : is_text (value_in (labels_of tree) l.key) l.value ≡ true = ap (λ (f : List ℕ → Option (List ℕ)). is_text (f l.key) l.value) kept ∙ (and_parts (has_label (labels_in tree) l) _ all).0 in
          labels_have ts (with_names_at ts [] []) (labels_of tree) l n (label_there (labels_of tree) l found) (subst (λ ks. is_known ts (record { label = first_text ks; name = n }) ≡ true) is known)

  -- a role that takes rules from the object is among the names found by the object's labels
  pub may_take : (r : Labelled) → IsKnown ts r → takes_from r (labels_in tree) ≡ true → is_marked (names_for ts (labels_of tree)) r.name ≡ true
  may_take r known h =
      let some = any_of (λ (s : Selector). matches s (labels_in tree)) (selectors_of r) h in
      first_found r.name some.0 (all_at (λ (s : Selector). is_known ts (taker_of r.name s) ≡ true) (selectors_of r) some.0 known some.1.0) some.1.1

-- ---- those that take rules from one with these labels

module _ (labels : Option Data) where
  taker_keeps : (ms : List (List ℕ)) (r : Labelled) → Keeps ms (mark_taker labels ms r)
  taker_keeps ms r n h = by_case (takes_from r labels)
    where
      by_case : (b : Bool) → is_marked (cond b (with_mark ms r.name) ms) n ≡ true
      by_case true = with_mark_keeps ms r.name n h
      by_case false = h

  taker_marks : (ms : List (List ℕ)) (r : Labelled) → takes_from r labels ≡ true → is_marked (mark_taker labels ms r) r.name ≡ true
  taker_marks ms r takes = by_case (takes_from r labels) takes
    where
      by_case : (b : Bool) → b ≡ true → is_marked (cond b (with_mark ms r.name) ms) r.name ≡ true
      by_case true h = with_mark_marks ms r.name
      by_case false h = absurd (cc h)

  pub takers_keep : (ms : List (List ℕ)) (rs : List Labelled) → Keeps ms (fold (mark_taker labels) ms rs)
  takers_keep ms [] n h = h
  takers_keep ms (r ∷ rs) n h = takers_keep (mark_taker labels ms r) rs n (taker_keeps ms r n h)

  takers_mark : (ms : List (List ℕ)) (rs : List Labelled) (r : Labelled) → Has rs r → takes_from r labels ≡ true → is_marked (fold (mark_taker labels) ms rs) r.name ≡ true
  takers_mark ms [] r has takes = absurd has
  takers_mark ms (y ∷ rs) r (inl same) takes =
      takers_keep (mark_taker labels ms y) rs r.name (rw same (taker_marks ms r takes))
  takers_mark ms (y ∷ rs) r (inr has) takes = takers_mark (mark_taker labels ms y) rs r has takes

-- ---- those that take rules from an object

-- whether the role takes rules from an object, if there is one
abbrev pub takes_object : Labelled → Option Data → Bool
takes_object r None = false
takes_object r (Some tree) = takes_from r (labels_in tree)

-- the labels kept of an object, if there is one, have the values of its own labels
abbrev pub AreKept : Option Data → Type 0
AreKept None = Unit {0}
AreKept (Some tree) = value_in (labels_of tree) ≡ label_in (labels_in tree)

-- whether the role takes rules from one that is changed, as it was or as it is left
abbrev pub is_moved : List (Key × Data) → Labelled → PlainChange → Bool
is_moved os r c = is_cluster_role c.key && (takes_object r (lookup (is_key c.key) os) || takes_object r c.new)

-- a role behind the listed ones
listed_before : (o : Option Labelled) (rs : List Labelled) (r : Labelled) → Has rs r → Has (listed_if o ++ rs) r
listed_before None rs r has = has
listed_before (Some q) rs r has = inr has

-- a cluster role is read if its name is kept
pub taker_has : (os : List (Key × Data)) (names : List (List ℕ)) (name : List ℕ) (r : Labelled) → role_at os name ≡ Some r → is_marked names name ≡ true → Has (takers_in os names) r
taker_has os [] name r found kept = absurd (cc kept)
taker_has os (n ∷ names) name r found kept = by_name (is_eq (slice_cmp nat_cmp name n)) refl (taker_has os names name r found) kept
  where
    by_name : (b : Bool) → is_eq (slice_cmp nat_cmp name n) ≡ b → (is_marked names name ≡ true → Has (takers_in os names) r) → (b || is_marked names name) ≡ true → Has (listed_if (role_at os n) ++ takers_in os names) r
    by_name true same rest k =
        let P : Option Labelled → Type 0 = λ o. Has (listed_if o ++ takers_in os names) r in
        let at : name ≡ n = same_text name n (sym (is_eq-slice_cmp name n) ∙ same) in
        subst P (sym found ∙ ap (role_at os) at) (inl refl)
    by_name false same rest k = listed_before (role_at os n) (takers_in os names) r (rest k)

module _ (os : List (Key × Data)) (takers : List Taker) where
  object_keeps : (ms : List (List ℕ)) (d : Option Data) → Keeps ms (mark_object os takers ms d)
  unfolding mark_takers
  object_keeps ms None n h = h
  object_keeps ms (Some tree) n h = takers_keep (labels_in tree) ms (takers_in os (names_for takers (labels_of tree))) n h

  changed_keeps : (ms : List (List ℕ)) (c : PlainChange) → Keeps ms (mark_changed os takers ms c)
  unfolding mark_changed
  changed_keeps ms c n h = object_keeps (mark_object os takers ms (lookup (is_key c.key) os)) c.new n (object_keeps ms (lookup (is_key c.key) os) n h)

  change_keeps : (ms : List (List ℕ)) (c : PlainChange) → Keeps ms (mark_change os takers ms c)
  change_keeps ms c n h = by_case (is_cluster_role c.key)
    where
      by_case : (b : Bool) → is_marked (cond b (mark_changed os takers ms c) ms) n ≡ true
      by_case true = changed_keeps ms c n h
      by_case false = h

  pub all_keep : (ms : List (List ℕ)) (cs : List PlainChange) → Keeps ms (mark_all os takers ms cs)
  all_keep ms [] n h = h
  all_keep ms (c ∷ cs) n h = all_keep (mark_change os takers ms c) cs n (change_keeps ms c n h)

  -- a cluster role that is stored, and known
  module _ (r : Labelled) (stored : role_at os r.name ≡ Some r) (known : IsKnown takers r) where
    object_marks : (ms : List (List ℕ)) (d : Option Data) → AreKept d → takes_object r d ≡ true → is_marked (mark_object os takers ms d) r.name ≡ true
    unfolding mark_takers
    object_marks ms None kept takes = absurd (cc takes)
    object_marks ms (Some tree) kept takes =
        takers_mark (labels_in tree) ms (takers_in os (names_for takers (labels_of tree))) r
        (taker_has os (names_for takers (labels_of tree)) r.name r stored (may_take takers tree kept r known takes)) takes

    changed_marks : (ms : List (List ℕ)) (c : PlainChange) → AreKept (lookup (is_key c.key) os) → AreKept c.new → (a b : Bool) → takes_object r (lookup (is_key c.key) os) ≡ a → takes_object r c.new ≡ b
        → (a || b) ≡ true → is_marked (mark_changed os takers ms c) r.name ≡ true
    unfolding mark_changed
    changed_marks ms c was left true b old new h =
        object_keeps (mark_object os takers ms (lookup (is_key c.key) os)) c.new r.name (object_marks ms (lookup (is_key c.key) os) was old)
    changed_marks ms c was left false true old new h = object_marks (mark_object os takers ms (lookup (is_key c.key) os)) c.new left new
    changed_marks ms c was left false false old new h = absurd (cc h)

    change_marks : (ms : List (List ℕ)) (c : PlainChange) → AreKept (lookup (is_key c.key) os) → AreKept c.new → is_moved os r c ≡ true → is_marked (mark_change os takers ms c) r.name ≡ true
    change_marks ms c was left h = by_case (is_cluster_role c.key) h
      where
        by_case : (b : Bool) → (b && (takes_object r (lookup (is_key c.key) os) || takes_object r c.new)) ≡ true → is_marked (cond b (mark_changed os takers ms c) ms) r.name ≡ true
        by_case true k = changed_marks ms c was left (takes_object r (lookup (is_key c.key) os)) (takes_object r c.new) refl refl k
        by_case false k = absurd (cc k)

    -- a role is marked, if it takes rules from one that is changed
    pub all_mark : (ms : List (List ℕ)) (cs : List PlainChange) → AllByRecursion (λ c. AreKept (lookup (is_key c.key) os) × AreKept c.new) cs
        → list_any (is_moved os r) cs ≡ true → is_marked (mark_all os takers ms cs) r.name ≡ true
    all_mark ms [] kept h = absurd (cc h)
    all_mark ms (c ∷ cs) kept h = by_case (is_moved os r c) refl (all_mark (mark_change os takers ms c) cs kept.1) h
      where
        by_case : (b : Bool) → is_moved os r c ≡ b → (list_any (is_moved os r) cs ≡ true → is_marked (mark_all os takers (mark_change os takers ms c) cs) r.name ≡ true) → (b || list_any (is_moved os r) cs) ≡ true
            → is_marked (mark_all os takers (mark_change os takers ms c) cs) r.name ≡ true
        by_case true moved rest k = all_keep (mark_change os takers ms c) cs r.name (change_marks ms c kept.0.0 kept.0.1 moved)
        by_case false moved rest k = rest k

-- ---- the aggregated cluster roles that changes leave

learn_keeps : (t : Tracked) (c : PlainChange) → KeepsAll t (learn t c)
learn_keeps t c = by_case (rule_left c)
  where
    by_case : (o : Option AggregationRule) → KeepsAll t (learn_rule t c.key.name o)
    by_case (Some rule) = (with_mark_keeps t.marks c.key.name, (selectors_keep t.takers c.key.name rule.cluster_role_selectors, (λ r h. h)))
    by_case None = ((λ n h. h), ((λ n h. h), (λ r h. h)))

pub learned_keeps : (t : Tracked) (cs : List PlainChange) → KeepsAll t (learned t cs)
learned_keeps t [] = ((λ n h. h), ((λ n h. h), (λ r h. h)))
learned_keeps t (c ∷ cs) =
    let first = learn_keeps t c in
    let rest = learned_keeps (learn t c) cs in
    ((λ n h. rest.0 n (first.0 n h)), ((λ n h. rest.1.0 n (first.1.0 n h)), (λ r h. rest.1.1 r (first.1.1 r h))))

-- the name is marked, and known by each of some selectors
abbrev pub IsBoth : Tracked → List ℕ → List Selector → Type 0
IsBoth t name ss = (is_marked t.marks name ≡ true) × AllByRecursion (λ s. is_known t.takers (taker_of name s) ≡ true) ss

learns : (t : Tracked) (c : PlainChange) (rule : AggregationRule) → rule_left c ≡ Some rule → IsBoth (learn t c) c.key.name rule.cluster_role_selectors
learns t c rule is = rw is (with_mark_marks t.marks c.key.name, selectors_known t.takers c.key.name rule.cluster_role_selectors)

both_keep : (old new : Tracked) (name : List ℕ) (ss : List Selector) → KeepsAll old new → IsBoth old name ss → IsBoth new name ss
both_keep old new name ss keeps both =
    (keeps.0 name both.0, all_from (λ s. is_known new.takers (taker_of name s) ≡ true) ss (λ s has. keeps.1.0 (taker_of name s) (all_at (λ (q : Selector). is_known old.takers (taker_of name q) ≡ true) ss s both.1 has)))

pub learned_has : (t : Tracked) (cs : List PlainChange) (c : PlainChange) (rule : AggregationRule) → Has cs c → rule_left c ≡ Some rule → IsBoth (learned t cs) c.key.name rule.cluster_role_selectors
learned_has t [] c rule has is = absurd has
learned_has t (d ∷ cs) c rule (inl same) is =
    both_keep (learn t d) (learned (learn t d) cs) c.key.name rule.cluster_role_selectors (learned_keeps (learn t d) cs) (rw same (learns t c rule is))
learned_has t (d ∷ cs) c rule (inr has) is = learned_has (learn t d) cs c rule has is

-- ---- what is known by its labels

labels_keep_givers : (gs : List Taker) (name : List ℕ) (ls : List Label) → KeepsTakers gs (with_giver gs name ls)
labels_keep_givers gs name ls = each_keeps label_text name gs ls

-- one that is put in is known by its labels
is_given : (gs : List Taker) (r : Labelled) → value_in (label_list r.labels) ≡ label_in r.labels → IsGiven (Some (with_giver gs r.name (label_list r.labels))) r
is_given gs r kept l h =
    each_known label_text r.name gs (label_list r.labels) l (label_there (label_list r.labels) l (ap (λ (f : List ℕ → Option (List ℕ)). is_text (f l.key) l.value) kept ∙ h))

left_keeps : (gs : List Taker) (name : List ℕ) (d : Option Data) → KeepsTakers gs (with_left gs name d)
left_keeps gs name None t h = h
left_keeps gs name (Some tree) t h = labels_keep_givers gs name (labels_of tree) t h

all_left_keep : (gs : List Taker) (cs : List PlainChange) → KeepsTakers gs (with_all_left gs cs)
all_left_keep gs [] t h = h
all_left_keep gs (c ∷ cs) t h = all_left_keep (with_left gs c.key.name c.new) cs t (left_keeps gs c.key.name c.new t h)

pub after_keeps : (givers : Option (List Taker)) (cs : List PlainChange) → KeepsGivers givers (givers_after givers cs)
after_keeps None cs r h = h
after_keeps (Some gs) cs r h = λ l has. all_left_keep gs cs (giver_of r.name l) (h l has)

left_given : (gs : List Taker) (cs : List PlainChange) (c : PlainChange) (x : Data) → Has cs c → c.new ≡ Some x → AreKept c.new → IsGiven (Some (with_all_left gs cs)) (labelled_at c.key.name x)
left_given gs [] c x has puts kept = absurd has
left_given gs (d ∷ cs) c x (inl same) puts kept = λ l h.
    all_left_keep (with_left gs d.key.name d.new) cs (giver_of c.key.name l)
    (rw (same, puts) (is_given gs (labelled_at c.key.name x) (subst AreKept puts kept) l h))
left_given gs (d ∷ cs) c x (inr has) puts kept = left_given (with_left gs d.key.name d.new) cs c x has puts kept

-- what a change leaves is known by its labels
pub after_gives : (givers : Option (List Taker)) (cs : List PlainChange) (c : PlainChange) (x : Data) → Has cs c → c.new ≡ Some x → AreKept c.new → IsGiven (givers_after givers cs) (labelled_at c.key.name x)
after_gives None cs c x has puts kept = tt
after_gives (Some gs) cs c x has puts kept = left_given gs cs c x has puts kept

-- each of some cluster roles is known by its labels
pub roles_given : (gs : List Taker) (rs : List Labelled) (r : Labelled) → Has rs r → value_in (label_list r.labels) ≡ label_in r.labels
    → IsGiven (Some (fold (λ hs q. with_giver hs q.name (label_list q.labels)) gs rs)) r
roles_given gs [] r has kept = absurd has
roles_given gs (q ∷ rs) r (inl same) kept = λ l h.
    roles_keep (with_giver gs q.name (label_list q.labels)) rs (giver_of r.name l) (rw same (is_given gs r kept l h))
  where
    roles_keep : (hs : List Taker) (ps : List Labelled) → KeepsTakers hs (fold (λ us p. with_giver us p.name (label_list p.labels)) hs ps)
    roles_keep hs [] t h = h
    roles_keep hs (p ∷ ps) t h = roles_keep (with_giver hs p.name (label_list p.labels)) ps t (labels_keep_givers hs p.name (label_list p.labels) t h)
roles_given gs (q ∷ rs) r (inr has) kept = roles_given (with_giver gs q.name (label_list q.labels)) rs r has kept

-- a note keeps what is there
pub noted_keeps : (os : List (Key × Data)) (t : Tracked) (cs : List PlainChange) → KeepsAll t (noted os t cs)
unfolding noted
noted_keeps os t cs =
    let after = learned_keeps t cs in
    ((λ n h. all_keep os (learned t cs).takers (learned t cs).marks cs n (after.0 n h)), (after.1.0, (λ r h. after_keeps (learned t cs).givers cs r (after.1.1 r h))))
