-- After a note every aggregated cluster role is known, and marked if it differs.
use Rattle.std.proofs.Common.{◌≡◌, ◌⊎◌, inl, inr, List, [], ◌∷◌, Bool, true, false, cond, not, ◌&&◌, Option, None, Some, option_map, is_some, codes, refl, sym, ap, ◌∙◌, subst, map}
use Rattle.std.proofs.lemmas.Cmp.{tied_itself}
use Rattle.std.specs.List.{AllByRecursion, filter, flat_map, fold, list_any}
use Rattle.std.specs.List.Sorted.{IsStrictlySortedBy}
use Rattle.std.specs.Map.{keys_of, lookup}
use Rattle.std.specs.Ordering.{is_eq}
use Rattle.std.specs.Str.{bytes_eq}
use Rattle.std.specs.declared.cmp.Ordering.TheVariants.{Less, Equal}
use Rattle.std.proofs.lemmas.Bool.{and_parts, or_parts, and_right}
use Rattle.serde_json.specs.Data.{Data}
use Rattle.kapi_model.specs.Kinds.{rbac_group}
use Rattle.kapi_model.specs.Selector.{matches}
use Rattle.kapi_model.specs.declared.aggregation_rule.AggregationRule.{AggregationRule}
use Rattle.kapi_model.specs.declared.policy_rule.PolicyRule.{PolicyRule}
use Rattle.kapi_model.specs.declared.selector.Selector.{Selector}
use Rattle.kapi_rbac_types.specs.Trees.{cluster_role_of}
use Rattle.kapi_store.proofs.Keys.{key_total}
use Rattle.kapi_store.specs.Changes.{placed_all}
use Rattle.kapi_store.specs.Keys.{is_key, key_cmp}
use Rattle.kapi_store.proofs.Labelled.{told_ordered, values_kept}
use Rattle.kapi_store.specs.Plain.{PlainChange, plain_change, plain_of, trees, trees_left_by}
use Rattle.kapi_store.specs.State.{IsStore, State, objects}
use Rattle.kapi_store.specs.Stored.{stored_tree}
use Rattle.kapi_store.specs.declared.change.Change.{Change}
use Rattle.kapi_store.specs.declared.key.Key.{Key}
use Rattle.kapi_store.specs.declared.stored.StoredObject.{StoredObject}
use Rattle.kapi_aggregation.specs.Rewriting.{role_key}
use Rattle.kapi_aggregation.specs.Roles.{Labelled, is_aggregated, is_cluster_role, labelled_at, labelled_tree, labels_in, roles_in, selectors_in, selectors_of, takes_from}
use Rattle.kapi_aggregation.specs.Unions.{is_meant, rules_meant, same_rules, union_for, with_rule}
use Rattle.kapi_aggregation.specs.Turns.{differs}
use Rattle.kapi_aggregation.specs.Marks.{Covers, IsCovered, IsGiven, IsKnown, KeepsAll, Tracked, givers_after, is_known, is_marked, learned, mark_all, noted, role_at, rule_left, taker_of}
use Rattle.kapi_aggregation.proofs.Lists.{all_at, all_from, filter_mapped, filter_twice, has_kept, has_mapped, kept_of, mapped_of, none_at, same_text, then_false}
use Rattle.kapi_aggregation.specs.Members.{Has}
use Rattle.kapi_aggregation.proofs.Marking.{AreKept, after_gives, after_keeps, all_keep, all_mark, is_moved, learned_has, learned_keeps, still_known, takes_object}
use Rattle.kapi_aggregation.proofs.Placed.{key_is, placed_all_filter, placed_all_has}
use Rattle.kapi_aggregation.proofs.Read.{empty_is, keys_of_trees}

-- lists that are made alike of each item are the same
pub flat_map_alike : {X Y : Type 0} (f g : X → List Y) (xs : List X) → ((x : X) → Has xs x → f x ≡ g x) → flat_map f xs ≡ flat_map g xs
flat_map_alike f g [] same = refl
flat_map_alike f g (x ∷ xs) same = rw (same x (inl refl), flat_map_alike f g xs (λ y has. same y (inr has))) refl

-- ---- what stands at a place

key_itself : (k : Key) → key_cmp k k ≡ Equal
key_itself k = tied_itself key_total k

not_itself : (k l : Key) → l ≡ k → key_cmp k l ≡ Less → ⊥
not_itself k l same less = let equal : key_cmp k l ≡ Equal = rw same (key_itself k) in cc (equal, less)

-- in the order of keys, what is looked up at the place of an entry is that entry's
pub entry_found : (os : List (Key × Data)) → IsStrictlySortedBy key_cmp (keys_of os) → (e : Key × Data) → Has os e → lookup (is_key e.0) os ≡ Some e.1
unfolding IsStrictlySortedBy
entry_found [] sorted e has = absurd has
entry_found (y ∷ os) sorted e (inl same) =
    let P : Key × Data → Type 0 = λ q. lookup (is_key q.0) (y ∷ os) ≡ Some q.1 in
    subst P same (ap (λ b. cond b (Some y.1) (lookup (is_key y.0) os)) (ap is_eq (key_itself y.0)))
entry_found (y ∷ os) sorted e (inr has) = by_test (is_key e.0 y.0) refl (entry_found os sorted.1 e has)
  where
    by_test : (b : Bool) → is_key e.0 y.0 ≡ b → lookup (is_key e.0) os ≡ Some e.1 → cond b (Some y.1) (lookup (is_key e.0) os) ≡ Some e.1
    by_test true at rest = absurd (not_itself y.0 e.0 (key_is e.0 y.0 at) (all_at (λ (k : Key). key_cmp y.0 k ≡ Less) (keys_of os) e.0 sorted.0 (has_mapped (λ (x : Key × Data). x.0) os e has)))
    by_test false at rest = rest

-- ---- the cluster roles that are looked at

-- the place of a cluster role is that of its name
place_is : (k : Key) → is_cluster_role k ≡ true → role_key k.name ≡ k
unfolding is_cluster_role
place_is k is =
    let parts = and_parts (bytes_eq k.group rbac_group) _ is in
    let others = and_parts (bytes_eq k.resource (codes "clusterroles")) _ parts.1 in
    λ i. record {
      group = sym (same_text k.group rbac_group parts.0) i;
      resource = sym (same_text k.resource (codes "clusterroles") others.0) i;
      namespace = sym (empty_is k.namespace others.1) i;
      name = k.name;
    }

-- a stored cluster role is the one of its name
pub role_found : (os : List (Key × Data)) → IsStrictlySortedBy key_cmp (keys_of os) → (e : Key × Data) → Has os e → is_cluster_role e.0 ≡ true → role_at os e.0.name ≡ Some (labelled_tree e)
role_found os sorted e has is =
    ap (λ (k : Key). option_map (labelled_at e.0.name) (lookup (is_key k) os)) (place_is e.0 is) ∙ ap (option_map (labelled_at e.0.name)) (entry_found os sorted e has)

-- ---- what a note leaves

module _ (os : List (Key × Data)) (cs : List PlainChange) (sorted : IsStrictlySortedBy key_cmp (keys_of os)) (kept : AllByRecursion (λ c. AreKept (lookup (is_key c.key) os) × AreKept c.new) cs) where
  module _ (r : Labelled) (still : list_any (is_moved os r) cs ≡ false) where
    -- a selector of the role matches the object of an entry
    meant : Selector → Key × Data → Bool
    meant s e = is_cluster_role e.0 && is_meant r.name s (labelled_tree e)

    not_meant : (s : Selector) → Has (selectors_of r) s → (e : Key × Data) → takes_from r (labels_in e.1) ≡ false → is_meant r.name s (labelled_tree e) ≡ false
    not_meant s has e takes = and_right (not (bytes_eq e.0.name r.name)) (matches s (labels_in e.1)) (none_at (λ (s : Selector). matches s (labels_in e.1)) (selectors_of r) s takes has)

    quiet : (c : PlainChange) → Has cs c → is_cluster_role c.key ≡ true → (takes_object r (lookup (is_key c.key) os) ≡ false) × (takes_object r c.new ≡ false)
    quiet c there is = or_parts _ _ (then_false (is_cluster_role c.key) _ is (none_at (is_moved os r) cs c still there))

    new_takes : (d : Option Data) (x : Data) → d ≡ Some x → takes_object r d ≡ false → takes_from r (labels_in x) ≡ false
    new_takes d x is h = ap (takes_object r) (sym is) ∙ h

    fails_new : (s : Selector) → Has (selectors_of r) s → (c : PlainChange) → Has cs c → (x : Data) → c.new ≡ Some x → meant s (c.key, x) ≡ false
    unfolding meant
    fails_new s has c there x is = by_case (is_cluster_role c.key) refl
      where
        by_case : (b : Bool) → is_cluster_role c.key ≡ b → (b && is_meant r.name s (labelled_tree (c.key, x))) ≡ false
        by_case true cluster = not_meant s has (c.key, x) (new_takes c.new x is (quiet c there cluster).1)
        by_case false cluster = refl

    fails_old : (s : Selector) → Has (selectors_of r) s → (c : PlainChange) → Has cs c → (e : Key × Data) → Has os e → e.0 ≡ c.key → meant s e ≡ false
    unfolding meant
    fails_old s has c there e stood at = by_case (is_cluster_role e.0) refl
      where
        by_case : (b : Bool) → is_cluster_role e.0 ≡ b → (b && is_meant r.name s (labelled_tree e)) ≡ false
        by_case true cluster =
            let changed : is_cluster_role c.key ≡ true = rw (← at) cluster in
            let found : lookup (is_key c.key) os ≡ Some e.1 = ap (λ (k : Key). lookup (is_key k) os) (sym at) ∙ entry_found os sorted e stood in
            not_meant s has e (new_takes (lookup (is_key c.key) os) e.1 found (quiet c there changed).0)
        by_case false cluster = refl

    fails_new_at : (s : Selector) → Has (selectors_of r) s → (w : Key × Option Data) → Has (trees_left_by cs) w → (x : Data) → w.1 ≡ Some x → meant s (w.0, x) ≡ false
    fails_new_at s has w there x is =
        let made = mapped_of (λ (c : PlainChange). let q : Key × Option Data = (c.key, c.new) in q) cs w there in
        ap (λ (q : Key × Option Data). meant s (q.0, x)) (sym made.1.1) ∙ fails_new s has made.0 made.1.0 x (ap (λ (q : Key × Option Data). q.1) made.1.1 ∙ is)

    fails_old_at : (s : Selector) → Has (selectors_of r) s → (w : Key × Option Data) → Has (trees_left_by cs) w → (e : Key × Data) → Has os e → e.0 ≡ w.0 → meant s e ≡ false
    fails_old_at s has w there e stood at =
        let made = mapped_of (λ (c : PlainChange). let q : Key × Option Data = (c.key, c.new) in q) cs w there in
        fails_old s has made.0 made.1.0 e stood (at ∙ ap (λ (q : Key × Option Data). q.0) (sym made.1.1))

    same_meant : (s : Selector) → Has (selectors_of r) s
        → filter (is_meant r.name s) (roles_in (placed_all (trees_left_by cs) os)) ≡ filter (is_meant r.name s) (roles_in os)
    unfolding meant
    same_meant s has =
        entries (placed_all (trees_left_by cs) os)
        ∙ ap (map labelled_tree) (placed_all_filter (meant s) (trees_left_by cs) os (fails_new_at s has) (fails_old_at s has))
        ∙ sym (entries os)
      where
        entries : (es : List (Key × Data)) → filter (is_meant r.name s) (roles_in es) ≡ map labelled_tree (filter (λ e. is_cluster_role e.0 && is_meant r.name s (labelled_tree e)) es)
        entries es =
            filter_mapped labelled_tree (is_meant r.name s) (filter (λ e. is_cluster_role e.0) es)
            ∙ ap (map labelled_tree) (filter_twice (λ (e : Key × Data). is_meant r.name s (labelled_tree e)) (λ e. is_cluster_role e.0) es)

    same_union : union_for (roles_in (placed_all (trees_left_by cs) os)) r ≡ union_for (roles_in os) r
    unfolding union_for
    same_union = ap (fold with_rule []) (flat_map_alike (rules_meant (roles_in (placed_all (trees_left_by cs) os)) r.name) (rules_meant (roles_in os) r.name) (selectors_of r)
        (λ s has. ap (flat_map (λ (o : Labelled). o.role.rules)) (same_meant s has)))

    same_differs : differs (roles_in (placed_all (trees_left_by cs) os)) r ≡ differs (roles_in os) r
    same_differs = ap (λ (u : List PolicyRule). is_aggregated r && not (same_rules r.role.rules u)) same_union

  module _ (t : Tracked) (covers : Covers t (roles_in os)) where
    abbrev after : List (Key × Data)
    after = placed_all (trees_left_by cs) os

    -- a role that was stored is known, and marked if it differs
    module _ (e : Key × Data) (there : Has os e) (is : is_cluster_role e.0 ≡ true) where
      covered : IsCovered t (roles_in os) (labelled_tree e)
      covered = all_at (IsCovered t (roles_in os)) (roles_in os) (labelled_tree e) covers (has_mapped labelled_tree (filter (λ e. is_cluster_role e.0) os) e (has_kept (λ (e : Key × Data). is_cluster_role e.0) os e there is))

      known : IsKnown (learned t cs).takers (labelled_tree e)
      known = still_known t.takers (learned t cs).takers (labelled_tree e) (learned_keeps t cs).1.0 covered.0.0

      marked : (b : Bool) → list_any (is_moved os (labelled_tree e)) cs ≡ b → differs (roles_in after) (labelled_tree e) ≡ true
          → is_marked (mark_all os (learned t cs).takers (learned t cs).marks cs) e.0.name ≡ true
      marked true moved d = all_mark os (learned t cs).takers (labelled_tree e) (role_found os sorted e there is) known (learned t cs).marks cs kept moved
      marked false still d =
          let before : differs (roles_in os) (labelled_tree e) ≡ true = sym (same_differs (labelled_tree e) still) ∙ d in
          all_keep os (learned t cs).takers (learned t cs).marks cs e.0.name ((learned_keeps t cs).0 e.0.name (covered.1 before))

      stood : IsCovered (noted os t cs) (roles_in after) (labelled_tree e)
      unfolding noted
      stood = ((known, after_keeps (learned t cs).givers cs (labelled_tree e) ((learned_keeps t cs).1.1 (labelled_tree e) covered.0.1)), marked (list_any (is_moved os (labelled_tree e)) cs) refl)

    leaves_rule : (c : PlainChange) (x : Data) (rule : AggregationRule) → c.new ≡ Some x → is_cluster_role c.key ≡ true → (cluster_role_of x).aggregation_rule ≡ Some rule → rule_left c ≡ Some rule
    leaves_rule c x rule puts is has = rw (is, puts) has

    -- a role that a change leaves is known, and marked if it differs
    left : (c : PlainChange) (x : Data) → Has cs c → c.new ≡ Some x → is_cluster_role c.key ≡ true → IsCovered (noted os t cs) (roles_in after) (labelled_at c.key.name x)
    unfolding noted
    left c x there puts is = by_rule (cluster_role_of x).aggregation_rule refl
      where
        given : IsGiven (givers_after (learned t cs).givers cs) (labelled_at c.key.name x)
        given = after_gives (learned t cs).givers cs c x there puts (all_at (λ (d : PlainChange). AreKept (lookup (is_key d.key) os) × AreKept d.new) cs c kept there).1

        by_rule : (o : Option AggregationRule) → (cluster_role_of x).aggregation_rule ≡ o → IsCovered (noted os t cs) (roles_in after) (labelled_at c.key.name x)
        by_rule None none = ((subst (λ o. AllByRecursion (λ s. is_known (learned t cs).takers (taker_of c.key.name s) ≡ true) (selectors_in o)) (sym none) tt, given), λ d. absurd (let never : is_some (cluster_role_of x).aggregation_rule ≡ false = ap is_some none in cc (never, (and_parts (is_aggregated (labelled_at c.key.name x)) _ d).0)))
        by_rule (Some rule) some =
            let both = learned_has t cs c rule there (leaves_rule c x rule puts is some) in
            ((subst (λ o. AllByRecursion (λ s. is_known (learned t cs).takers (taker_of c.key.name s) ≡ true) (selectors_in o)) (sym some) both.1, given), λ d. all_keep os (learned t cs).takers (learned t cs).marks cs c.key.name both.0)

    Covered : Labelled → Type 0
    Covered r = IsCovered (noted os t cs) (roles_in after) r

    left_at : (e : Key × Data) (w : Key × Option Data) → Has (trees_left_by cs) w → (x : Data) → w.1 ≡ Some x → e ≡ (w.0, x) → is_cluster_role e.0 ≡ true → Covered (labelled_tree e)
    unfolding Covered
    left_at e w there x puts at is =
        let made = mapped_of (λ (c : PlainChange). let q : Key × Option Data = (c.key, c.new) in q) cs w there in
        let key : e.0 ≡ made.0.key = ap (λ (q : Key × Data). q.0) at ∙ sym (ap (λ (q : Key × Option Data). q.0) made.1.1) in
        let new : made.0.new ≡ Some x = ap (λ (q : Key × Option Data). q.1) made.1.1 ∙ puts in
        let tree : e.1 ≡ x = ap (λ (q : Key × Data). q.1) at in
        rw (key, tree) (left made.0 x made.1.0 new (rw (← key) is))

    by_place : (e : Key × Data) → is_cluster_role e.0 ≡ true
        → Has os e ⊎ ((w : Key × Option Data) × (Has (trees_left_by cs) w × ((x : Data) × ((w.1 ≡ Some x) × (e ≡ (w.0, x)))))) → Covered (labelled_tree e)
    unfolding Covered
    by_place e is (inl there) = stood e there is
    by_place e is (inr new) = left_at e new.0 new.1.0 new.1.1.0 new.1.1.1.0 new.1.1.1.1 is

    by_entry : (r : Labelled) → (e : Key × Data) × (Has (filter (λ e. is_cluster_role e.0) after) e × (labelled_tree e ≡ r)) → Covered r
    by_entry r found =
        let kept = kept_of (λ (e : Key × Data). is_cluster_role e.0) after found.0 found.1.0 in
        subst Covered found.1.1 (by_place found.0 kept.1 (placed_all_has (trees_left_by cs) os found.0 kept.0))

    pub covers_noted : Covers (noted os t cs) (roles_in after)
    unfolding Covered
    covers_noted = all_from (IsCovered (noted os t cs) (roles_in after)) (roles_in after) (λ r has. by_entry r (mapped_of labelled_tree (filter (λ e. is_cluster_role e.0) after) r has))

-- ---- the labels that are kept

kept_there : (os : List (Key × StoredObject)) (k : Key) → AreKept (lookup (is_key k) (trees os))
kept_there [] k = tt
kept_there (o ∷ os) k = by_key (is_key k o.0) (kept_there os k)
  where
    by_key : (b : Bool) → AreKept (lookup (is_key k) (trees os)) → AreKept (cond b (Some (stored_tree o.1)) (lookup (is_key k) (trees os)))
    by_key true rest = values_kept (stored_tree o.1) (told_ordered o.1.text o.1.reads)
    by_key false rest = rest

kept_left : (c : Change) → AreKept (plain_change c).new
kept_left c = by_new c.new
  where
    by_new : (o : Option StoredObject) → AreKept (option_map stored_tree o)
    by_new None = tt
    by_new (Some o) = values_kept (stored_tree o) (told_ordered o.text o.reads)

kept_all : (s : State) (cs : List Change) → AllByRecursion (λ c. AreKept (lookup (is_key c.key) (plain_of s).objects) × AreKept c.new) (map plain_change cs)
kept_all s [] = tt
kept_all s (c ∷ cs) = ((kept_there (objects s) c.key, kept_left c), kept_all s cs)

-- a note of a store's changes covers its cluster roles
pub note_covers : (s : State) (cs : List Change) (old new : Tracked) → IsStore s → new ≡ noted (plain_of s).objects old (map plain_change cs) → Covers old (roles_in (plain_of s).objects)
    → Covers new (roles_in (placed_all (trees_left_by (map plain_change cs)) (plain_of s).objects))
note_covers s cs old new is made covers =
    rw made (covers_noted (plain_of s).objects (map plain_change cs) (rw (keys_of_trees (objects s)) is.ordered) (kept_all s cs) old covers)

-- what is more covers as well
pub keeps_covers : (old new : Tracked) (roles : List Labelled) → KeepsAll old new → Covers old roles → Covers new roles
keeps_covers old new roles keeps covers =
    all_from (IsCovered new roles) roles
    (λ r has. let covered = all_at (IsCovered old roles) roles r covers has in ((still_known old.takers new.takers r keeps.1.0 covered.0.0, keeps.1.1 r covered.0.1), (λ d. keeps.0 r.name (covered.1 d))))
