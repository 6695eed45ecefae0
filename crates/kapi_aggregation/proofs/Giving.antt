-- The cluster roles known by a label include each role that a selector of the label matches, so the turn found among
-- them is the next one.
use Rattle.std.proofs.Common.{◌≡◌, inl, inr, ℕ, List, [], ◌∷◌, ◌++◌, Bool, true, false, cond, not, Option, Some, None, option_and_then, refl, sym, ap, ◌∙◌, subst}
use Rattle.std.proofs.lemmas.Bool.{and_parts}
use Rattle.std.proofs.lemmas.List.Kept.{IsStrictlySortedBy-filter}
use Rattle.std.specs.BTreeSet.{insert_key}
use Rattle.std.specs.Cmp.{IsTotalOrder}
use Rattle.std.specs.Cmp.Lexicographic.{nat_list_cmp_total, slice_cmp}
use Rattle.std.specs.List.{AllByRecursion, filter, flat_map, fold, list_all}
use Rattle.std.specs.List.Sorted.{IsStrictlySortedBy}
use Rattle.std.specs.Map.{keys_of}
use Rattle.std.specs.Ordering.{match_ordering, nat_cmp, ordering_reverse}
use Rattle.std.specs.Str.{bytes_eq}
use Rattle.std.specs.declared.cmp.Ordering.{Ordering}
use Rattle.std.specs.declared.cmp.Ordering.TheVariants.{Less, Equal, Greater}
use Rattle.serde_json.specs.Data.{Data}
use Rattle.kapi_model.specs.Selector.{has_label, label_in, matches, value_in}
use Rattle.kapi_model.specs.declared.policy_rule.PolicyRule.{PolicyRule}
use Rattle.kapi_model.specs.declared.selector.Label.{Label}
use Rattle.kapi_model.specs.declared.selector.Selector.{Selector}
use Rattle.kapi_store.proofs.Labelled.{told_ordered, values_kept}
use Rattle.kapi_store.specs.Keys.{key_cmp}
use Rattle.kapi_store.specs.Plain.{plain_of, trees}
use Rattle.kapi_store.specs.State.{IsStore, State, objects}
use Rattle.kapi_store.specs.Stored.{stored_tree}
use Rattle.kapi_store.specs.declared.key.Key.{Key}
use Rattle.kapi_store.specs.declared.stored.StoredObject.{StoredObject}
use Rattle.kapi_aggregation.specs.Roles.{IsInNameOrder, Labelled, is_cluster_role, labelled_tree, names_of, roles_in, selectors_of}
use Rattle.kapi_aggregation.specs.Unions.{is_meant, rules_meant, union_for, with_rule}
use Rattle.kapi_aggregation.specs.Turns.{first_some, next, turn_at, turn_to}
use Rattle.kapi_aggregation.specs.Marks.{Covers, IsCovered, IsGiven, Tracked, all_givers, all_takers, candidates, is_marked, label_list, label_text, left_by, listed_if, marks_after, role_at, rules_given, takers_at, takers_in, turn_given, turn_of_name, union_given, with_mark, with_names_at}
use Rattle.kapi_aggregation.specs.declared.takers.Taker.{Taker}
use Rattle.kapi_aggregation.specs.declared.turn.Turn.{Turn}
use Rattle.kapi_aggregation.proofs.Lists.{all_at, all_from, has_kept, has_mapped, kept_of, mapped_of}
use Rattle.kapi_aggregation.proofs.Marking.{names_at_have, roles_given, roles_known, taker_has}
use Rattle.kapi_aggregation.proofs.Noting.{flat_map_alike}
use Rattle.kapi_aggregation.proofs.Read.{keys_of_trees, read_order}
use Rattle.kapi_aggregation.proofs.Turning.{marks_next, named_role, stored_role, turn_covers}
use Rattle.kapi_aggregation.specs.Members.{Has}

-- ---- lists in order

module _ {K : Type 0} (cmp : K → K → Ordering) (total : IsTotalOrder cmp) where
  not_both : (x y : K) → cmp x y ≡ Less → cmp y x ≡ Less → ⊥
  not_both x y one other = let never : cmp x y ≡ Greater = total.antisymm x y ∙ ap ordering_reverse other in cc (one, never)

  not_later : (x : K) (xs : List K) → AllByRecursion (λ k. cmp x k ≡ Less) xs → (k : K) → Has xs k → x ≡ k → ⊥
  not_later x xs above k has same =
      let less : cmp k k ≡ Less = subst (λ j. cmp j k ≡ Less) same (all_at (λ (j : K). cmp x j ≡ Less) xs k above has) in
      not_both k k less less

  in_rest : (x y : K) (xs ys : List K) → x ≡ y → AllByRecursion (λ k. cmp x k ≡ Less) xs → (k : K) → Has xs k → Has (y ∷ ys) k → Has ys k
  in_rest x y xs ys same above k has (inl at) = absurd (not_later x xs above k has (same ∙ at))
  in_rest x y xs ys same above k has (inr there) = there

  -- lists in order that have the same items are the same
  same_sorted : (xs ys : List K) → IsStrictlySortedBy cmp xs → IsStrictlySortedBy cmp ys → ((k : K) → Has xs k → Has ys k) → ((k : K) → Has ys k → Has xs k) → xs ≡ ys
  unfolding IsStrictlySortedBy
  same_sorted [] [] s t to from = refl
  same_sorted [] (y ∷ ys) s t to from = absurd (from y (inl refl))
  same_sorted (x ∷ xs) [] s t to from = absurd (to x (inl refl))
  same_sorted (x ∷ xs) (y ∷ ys) s t to from =
      let one : x ≡ y = heads (to x (inl refl)) (from y (inl refl)) in
      let rest : xs ≡ ys = same_sorted xs ys s.1 t.1 (λ k has. in_rest x y xs ys one s.0 k has (to k (inr has))) (λ k has. in_rest y x ys xs (sym one) t.0 k has (from k (inr has))) in
      λ i. one i ∷ rest i
    where
      heads : Has (y ∷ ys) x → Has (x ∷ xs) y → x ≡ y
      heads (inl same) back = sym same
      heads (inr there) (inl same) = same
      heads (inr there) (inr back) = absurd (not_both x y (all_at (λ (k : K). cmp x k ≡ Less) xs y s.0 back) (all_at (λ (k : K). cmp y k ≡ Less) ys x t.0 there))

  put_all : (P : K → Type 0) (k : K) (ks : List K) → P k → AllByRecursion P ks → AllByRecursion P (insert_key cmp ks k)
  put_all P k [] this h = (this, tt)
  put_all P k (x ∷ xs) this h = by_order (cmp k x) (put_all P k xs this h.1)
    where
      by_order : (o : Ordering) → AllByRecursion P (insert_key cmp xs k) → AllByRecursion P (match_ordering o (k ∷ x ∷ xs) (x ∷ xs) (x ∷ insert_key cmp xs k))
      by_order Less rest = (this, h)
      by_order Equal rest = h
      by_order Greater rest = (h.0, rest)

  put_sorted : (k : K) (ks : List K) → IsStrictlySortedBy cmp ks → IsStrictlySortedBy cmp (insert_key cmp ks k)
  unfolding IsStrictlySortedBy
  put_sorted k [] s = (tt, tt)
  put_sorted k (x ∷ xs) s = by_order (cmp k x) refl (put_sorted k xs s.1)
    where
      by_order : (o : Ordering) → cmp k x ≡ o → IsStrictlySortedBy cmp (insert_key cmp xs k) → IsStrictlySortedBy cmp (match_ordering o (k ∷ x ∷ xs) (x ∷ xs) (x ∷ insert_key cmp xs k))
      by_order Less is rest = ((is, all_from (λ y. cmp k y ≡ Less) xs (λ y has. total.trans k x y is (all_at (λ (j : K). cmp x j ≡ Less) xs y s.0 has))), s)
      by_order Equal is rest = s
      by_order Greater is rest = (put_all (λ y. cmp x y ≡ Less) k xs (total.antisymm x k ∙ ap ordering_reverse is) s.0, rest)

names_sorted : (ns : List (List ℕ)) (ts : List Taker) → IsStrictlySortedBy (slice_cmp nat_cmp) ns → IsStrictlySortedBy (slice_cmp nat_cmp) (fold (λ ms t. with_mark ms t.name) ns ts)
names_sorted ns [] s = s
names_sorted ns (t ∷ ts) s = names_sorted (with_mark ns t.name) ts (by_case (is_marked ns t.name))
  where
    by_case : (b : Bool) → IsStrictlySortedBy (slice_cmp nat_cmp) (cond b ns (insert_key (slice_cmp nat_cmp) ns t.name))
    by_case true = s
    by_case false = put_sorted (slice_cmp nat_cmp) nat_list_cmp_total t.name ns s

-- ---- cluster roles in the order of their names

abbrev by_name : Labelled → Labelled → Ordering
by_name a b = slice_cmp nat_cmp a.name b.name

by_name_total : IsTotalOrder by_name
by_name_total = record {
  antisymm = λ a b. nat_list_cmp_total.antisymm a.name b.name;
  trans = λ a b c. nat_list_cmp_total.trans a.name b.name c.name;
  congr = λ a b c. nat_list_cmp_total.congr a.name b.name c.name;
}

in_order : (rs : List Labelled) → IsInNameOrder rs → IsStrictlySortedBy by_name rs
unfolding IsStrictlySortedBy
in_order [] s = tt
in_order (r ∷ rs) s =
    (all_from (λ q. by_name r q ≡ Less) rs (λ q has. all_at (λ (n : List ℕ). slice_cmp nat_cmp r.name n ≡ Less) (names_of rs) q.name s.0 (has_mapped (λ (q : Labelled). q.name) rs q has)), in_order rs s.1)

module _ (os : List (Key × Data)) (sorted : IsStrictlySortedBy key_cmp (keys_of os)) where
  -- one that is looked up is the one of one of the names
  taken_of : (ns : List (List ℕ)) (r : Labelled) → Has (takers_in os ns) r → (n : List ℕ) × (Has ns n × (role_at os n ≡ Some r))
  taken_of [] r has = absurd has
  taken_of (n ∷ ns) r has = by_role (role_at os n) refl (taken_of ns r) has
    where
      by_role : (o : Option Labelled) → role_at os n ≡ o → (Has (takers_in os ns) r → (m : List ℕ) × (Has ns m × (role_at os m ≡ Some r))) → Has (listed_if o ++ takers_in os ns) r
          → (m : List ℕ) × (Has (n ∷ ns) m × (role_at os m ≡ Some r))
      by_role None is rest there = let more = rest there in (more.0, (inr more.1.0, more.1.1))
      by_role (Some q) is rest (inl same) = (n, (inl refl, is ∙ ap Some same))
      by_role (Some q) is rest (inr there) = let more = rest there in (more.0, (inr more.1.0, more.1.1))

  taken_sorted : (ns : List (List ℕ)) → IsStrictlySortedBy (slice_cmp nat_cmp) ns → IsStrictlySortedBy by_name (takers_in os ns)
  unfolding IsStrictlySortedBy
  taken_sorted [] s = tt
  taken_sorted (n ∷ ns) s = by_role (role_at os n) refl (taken_sorted ns s.1)
    where
      above : (q : Labelled) → role_at os n ≡ Some q → (r : Labelled) → Has (takers_in os ns) r → by_name q r ≡ Less
      above q is r has =
          let from = taken_of ns r has in
          rw ((named_role os sorted n q is).0, (named_role os sorted from.0 r from.1.1).0) (all_at (λ (m : List ℕ). slice_cmp nat_cmp n m ≡ Less) ns from.0 s.0 from.1.0)

      by_role : (o : Option Labelled) → role_at os n ≡ o → IsStrictlySortedBy by_name (takers_in os ns) → IsStrictlySortedBy by_name (listed_if o ++ takers_in os ns)
      by_role None is rest = rest
      by_role (Some q) is rest = (all_from (λ r. by_name q r ≡ Less) (takers_in os ns) (above q is), rest)

  module _ (order : IsInNameOrder (roles_in os)) where
    module _ (gs : List Taker) (given : (r : Labelled) → Has (roles_in os) r → IsGiven (Some gs) r) (name : List ℕ) (s : Selector) (l : Label) (ls : List Label) (first : s.match_labels ≡ l ∷ ls) where
      abbrev names : List (List ℕ)
      names = with_names_at gs [] (label_text l)

      matched_has : (r : Labelled) → Has (roles_in os) r → is_meant name s r ≡ true → Has (takers_in os names) r
      matched_has r has meant =
          let matched : matches s r.labels ≡ true = (and_parts (not (bytes_eq r.name name)) (matches s r.labels) meant).1 in
          let all : list_all (has_label r.labels) (l ∷ ls) ≡ true = ap (list_all (has_label r.labels)) (sym first) ∙ (and_parts (list_all (has_label r.labels) s.match_labels) _ matched).0 in
          taker_has os names r.name r (stored_role os sorted r has) (names_at_have gs [] (label_text l) r.name (given r has l (and_parts (has_label r.labels l) _ all).0))

      -- those that a selector matches are among those at its first label
      same_meant : filter (is_meant name s) (takers_in os names) ≡ filter (is_meant name s) (roles_in os)
      unfolding IsStrictlySortedBy
      same_meant =
          same_sorted by_name by_name_total (filter (is_meant name s) (takers_in os names)) (filter (is_meant name s) (roles_in os))
          (IsStrictlySortedBy-filter by_name (is_meant name s) (takers_in os names) (taken_sorted names (names_sorted [] (takers_at gs (label_text l)) tt)))
          (IsStrictlySortedBy-filter by_name (is_meant name s) (roles_in os) (in_order (roles_in os) order))
          (λ r has. let kept = kept_of (is_meant name s) (takers_in os names) r has in let from = taken_of names r kept.0 in has_kept (is_meant name s) (roles_in os) r (named_role os sorted from.0 r from.1.1).1 kept.1)
          (λ r has. let kept = kept_of (is_meant name s) (roles_in os) r has in has_kept (is_meant name s) (takers_in os names) r (matched_has r kept.0 kept.1) kept.1)

    same_taken : (givers : Option (List Taker)) → ((r : Labelled) → Has (roles_in os) r → IsGiven givers r) → (name : List ℕ) (s : Selector)
        → rules_given os givers name s ≡ rules_meant (roles_in os) name s
    same_taken None given name s = refl
    same_taken (Some gs) given name s = by_labels s.match_labels refl
      where
        by_labels : (ls : List Label) → s.match_labels ≡ ls → rules_meant (candidates os (Some gs) ls) name s ≡ rules_meant (roles_in os) name s
        by_labels [] first = refl
        by_labels (l ∷ ls) first = ap (flat_map (λ (r : Labelled). r.role.rules)) (same_meant gs given name s l ls first)

    -- what is found by the givers is what is found among all
    same_turn_of : (givers : Option (List Taker)) → ((r : Labelled) → Has (roles_in os) r → IsGiven givers r) → (r : Labelled) → turn_to r (union_given os givers r) ≡ turn_at (roles_in os) r
    unfolding union_for
    same_turn_of givers given r =
        ap (λ (rules : List PolicyRule). turn_to r (fold with_rule [] rules))
        (flat_map_alike (rules_given os givers r.name) (rules_meant (roles_in os) r.name) (selectors_of r) (λ s has. same_taken givers given r.name s))

    pub same_first : (givers : Option (List Taker)) → ((r : Labelled) → Has (roles_in os) r → IsGiven givers r) → (ns : List (List ℕ)) → first_some (turn_given os givers) ns ≡ first_some (turn_of_name os) ns
    same_first givers given ns =
        ap (λ (f : Labelled → Option Turn). first_some (λ n. option_and_then f (role_at os n)) ns) (λ i r. same_turn_of givers given r i)

-- the turn that is found by the marks and the givers is the next one, if they cover the cluster roles
pub given_next : (s : State) (t : Tracked) → IsStore s → IsStrictlySortedBy (slice_cmp nat_cmp) t.marks → Covers t (roles_in (plain_of s).objects)
    → first_some (turn_given (plain_of s).objects t.givers) t.marks ≡ next (roles_in (plain_of s).objects)
given_next s t is up covers =
    let os = (plain_of s).objects in
    same_first os (rw (keys_of_trees (objects s)) is.ordered) (read_order s (roles_in os) is refl) t.givers (λ r has. (all_at (IsCovered t (roles_in os)) (roles_in os) r covers has).0.1) t.marks
    ∙ marks_next s t is up covers

-- what is kept after that turn covers them
pub marks_cover : (s : State) (t new : Tracked) (turn : Option Turn) → IsStore s → IsStrictlySortedBy (slice_cmp nat_cmp) t.marks → turn ≡ first_some (turn_given (plain_of s).objects t.givers) t.marks
    → new.marks ≡ marks_after t.marks turn → new.takers ≡ t.takers → new.givers ≡ t.givers → Covers t (roles_in (plain_of s).objects) → Covers new (roles_in (plain_of s).objects)
marks_cover s t new turn is up found marks takers givers covers =
    let rs = roles_in (plain_of s).objects in
    let left : new ≡ left_by t rs turn = λ i. record { marks = marks i; takers = takers i; givers = givers i } in
    rw left (turn_covers t rs (read_order s rs is refl) covers turn (found ∙ given_next s t is up covers))

-- ---- what is read anew

-- the labels kept of a stored cluster role have the values of its own labels
labels_kept : (os : List (Key × StoredObject)) (r : Labelled) → Has (roles_in (trees os)) r → value_in (label_list r.labels) ≡ label_in r.labels
labels_kept os r has =
    let role = mapped_of labelled_tree (filter (λ e. is_cluster_role e.0) (trees os)) r has in
    let entry = mapped_of (λ (e : Key × StoredObject). let q : Key × Data = (e.0, stored_tree e.1) in q) os role.0 (kept_of (λ (e : Key × Data). is_cluster_role e.0) (trees os) role.0 role.1.0).0 in
    let P : Labelled → Type 0 = λ q. value_in (label_list q.labels) ≡ label_in q.labels in
    subst P (ap labelled_tree entry.1.1 ∙ role.1.1) (values_kept (stored_tree entry.0.1) (told_ordered entry.0.1.text entry.0.1.reads))

-- takers and givers read anew from the roles cover the roles
pub anew_covers : (s : State) (old new : Tracked) → new.marks ≡ old.marks → new.takers ≡ all_takers (roles_in (plain_of s).objects) → new.givers ≡ Some (all_givers (roles_in (plain_of s).objects))
    → Covers old (roles_in (plain_of s).objects) → Covers new (roles_in (plain_of s).objects)
anew_covers s old new marks takers givers covers =
    let roles = roles_in (plain_of s).objects in
    all_from (IsCovered new roles) roles
    (λ r has. ((rw takers (roles_known [] roles r has), rw givers (roles_given [] roles r has (labels_kept (objects s) r has))), λ d. rw marks ((all_at (IsCovered old roles) roles r covers has).1 d)))
