-- What is suggested allows what the uses give, and nothing else.
use Rattle.std.proofs.Common.{◌≡◌, ◌⊎◌, inl, inr, ℕ, Bool, true, false, cond, not, ◌&&◌, ◌||◌, ◌==◌, if◌then◌else◌, List, [], ◌∷◌, ◌++◌, length, reverse, Some, None, refl, sym, ap, subst, ◌∙◌}
use Rattle.std.proofs.Math.Dec.{eqb-suc-zero}
use Rattle.std.proofs.lemmas.Bool.{and_from, and_parts, or_cases, or_left, or_right}
use Rattle.std.proofs.lemmas.List.Folds.{list_any-append}
use Rattle.std.proofs.lemmas.List.Sorted.{IsPermutation-reverse, list_any-IsPermutation}
use Rattle.std.proofs.lemmas.Map.Text.{is_eq-slice_cmp}
use Rattle.std.specs.BTreeMap.{insert_entry, is_at}
use Rattle.std.specs.Cmp.{Equal-is, IsTotalOrder}
use Rattle.std.specs.Cmp.Lexicographic.{slice_cmp}
use Rattle.std.specs.List.{filter, fold, list_any}
use Rattle.std.specs.List.Sorted.{IsStrictlySortedBy}
use Rattle.std.specs.Map.{keys_of, lookup, remove_entry}
use Rattle.std.specs.Option.{unwrap_or}
use Rattle.std.specs.Ordering.{is_eq, match_ordering, nat_cmp, ordering_reverse, ordering_then}
use Rattle.std.specs.Str.{bytes_eq}
use Rattle.std.specs.declared.cmp.Ordering.{Ordering}
use Rattle.std.specs.declared.cmp.Ordering.TheVariants.{Less, Equal, Greater}
use Rattle.kapi_text.proofs.Booleans.{and_false, and_or, by_truth, or_assoc, or_false}
use Rattle.kapi_model.specs.Identities.{is_master}
use Rattle.kapi_model.specs.declared.identity.Identity.{Identity}
use Rattle.kapi_rules.proofs.Covers.{implies_allows, same}
use Rattle.kapi_rules.proofs.Law.{any_weaker}
use Rattle.kapi_rules.proofs.Parts.{any_flat_map, any_same}
use Rattle.kapi_rules.specs.Atoms.{atom_allows, implies}
use Rattle.kapi_rules.specs.Points.{HasPlainResource}
use Rattle.kapi_rules.specs.declared.atom.Atom.{Atom}
use Rattle.kapi_rules.specs.declared.point.Point.{Point}
use Rattle.kapi_policy.proofs.Sets.{delete_keeps, delete_sets, put_keeps}
use Rattle.kapi_aggregation.proofs.Lists.{has_kept, some_at}
use Rattle.kapi_aggregation.specs.Members.{Has}
use Rattle.kapi_escalation_laws.proofs.Elements.{passing}
use Rattle.kapi_access.proofs.Joined.{together_allows}
use Rattle.kapi_access.specs.Together.{together}
use Rattle.kapi_reviews.specs.declared.question.Question.{Question}
use Rattle.kapi_suggest.specs.Needs.{allows_by, is_implied, needed_at, place_cmp, place_used, suggested, suggested_at, used, used_at, used_everywhere, widest, with_atom, with_use}
use Rattle.kapi_suggest.specs.Uses.{atom_used, counts, given_by, gives}
use Rattle.kapi_suggest.specs.declared.user_scope.UserScope.{UserScope}
use Rattle.kapi_suggest.specs.contracts.user_scope.UserScopeOrd.TheImpl.Laws as laws

swapped : (a b : Bool) → (a || b) ≡ (b || a)
swapped true true = refl
swapped true false = refl
swapped false true = refl
swapped false false = refl

-- ---- places

place_total : IsTotalOrder place_cmp
place_total = laws.total-law

both_equal : (a b : Ordering) → ordering_then a b ≡ Equal → (a ≡ Equal) × (b ≡ Equal)
both_equal Less b h = absurd (cc h)
both_equal Equal b h = (refl, h)
both_equal Greater b h = absurd (cc h)

text_same : (x y : List ℕ) → slice_cmp nat_cmp x y ≡ Equal → x ≡ y
text_same x y h = same x y (sym (is_eq-slice_cmp x y) ∙ ap is_eq h)

place_same : (a b : UserScope) → place_cmp a b ≡ Equal → a ≡ b
place_same a b h =
    let parts = both_equal (slice_cmp nat_cmp a.user b.user) (slice_cmp nat_cmp a.namespace b.namespace) h in
    λ i. record { user = text_same a.user b.user parts.0 i; namespace = text_same a.namespace b.namespace parts.1 i }

itself_equal : (k : UserScope) → is_eq (place_cmp k k) ≡ true
itself_equal k = by_order (place_cmp k k) (place_total.antisymm k k)
  where
    by_order : (o : Ordering) → o ≡ ordering_reverse o → is_eq o ≡ true
    by_order Less h = absurd (cc h)
    by_order Equal h = refl
    by_order Greater h = absurd (cc h)

-- a place that was found has what was found
found : (list : List (UserScope × List Atom)) (k : UserScope) (a : Atom) → is_implied (used_at list k) a ≡ true → (e : UserScope × List Atom) × (Has list e × ((e.0 ≡ k) × (is_implied e.1 a ≡ true)))
found [] k a h = absurd (cc h)
found (e ∷ list) k a h = by_test (is_eq (place_cmp k e.0)) refl h (found list k a)
  where
    by_test : (c : Bool) → is_eq (place_cmp k e.0) ≡ c → is_implied (unwrap_or (cond c (Some e.1) (lookup (is_at (place_cmp k)) list)) []) a ≡ true
        → (is_implied (used_at list k) a ≡ true → (f : UserScope × List Atom) × (Has list f × ((f.0 ≡ k) × (is_implied f.1 a ≡ true))))
        → (f : UserScope × List Atom) × (Has (e ∷ list) f × ((f.0 ≡ k) × (is_implied f.1 a ≡ true)))
    by_test true is h more = (e, (inl refl, (sym (place_same k e.0 ((Equal-is (place_cmp k e.0)).0 is)), h)))
    by_test false is h more = let w = more h in (w.0, (inr w.1.0, w.1.1))

all_kept : {X : Type 0} (xs : List X) → filter (λ x. true) xs ≡ xs
all_kept [] = refl
all_kept (x ∷ xs) = ap (λ l. x ∷ l) (all_kept xs)

-- ---- atoms

module _ (p : Point) (plain : HasPlainResource p) where
  abbrev some : List Atom → Bool
  some atoms = list_any (λ a. atom_allows a p) atoms

  idle : (s a : Bool) → (a ≡ true → s ≡ true) → s ≡ (s || a)
  idle true a h = refl
  idle false true h = h refl
  idle false false h = refl

  one_atom : (atoms : List Atom) (a : Atom) → some (with_atom atoms a) ≡ (some atoms || atom_allows a p)
  unfolding with_atom
  one_atom atoms a = by_case (is_implied atoms a) refl
    where
      by_case : (t : Bool) → is_implied atoms a ≡ t → some (if t then atoms else atoms ++ a ∷ []) ≡ (some atoms || atom_allows a p)
      by_case true is =
          idle (some atoms) (atom_allows a p) (λ h. any_weaker (λ b. implies b a) (λ b. atom_allows b p) atoms (λ b i. implies_allows b a p plain i h) is)
      by_case false is =
          list_any-append (λ b. atom_allows b p) atoms (a ∷ []) ∙ ap (λ t. some atoms || t) (or_false (atom_allows a p))

  each_atom : (list atoms : List Atom) → some (fold with_atom list atoms) ≡ (some list || some atoms)
  each_atom list [] = sym (or_false (some list))
  each_atom list (a ∷ atoms) =
      each_atom (with_atom list a) atoms ∙ ap (λ t. t || some atoms) (one_atom list a) ∙ or_assoc (some list) (atom_allows a p) (some atoms)

  turned_round : (atoms : List Atom) → some (reverse atoms) ≡ some atoms
  turned_round atoms = sym (list_any-IsPermutation (λ a. atom_allows a p) atoms (reverse atoms) (IsPermutation-reverse atoms))

  -- what an atom implies is not missed beside it
  kept : (atoms : List Atom) → some (widest atoms) ≡ some atoms
  kept atoms = turned_round (fold with_atom [] (reverse atoms)) ∙ each_atom [] (reverse atoms) ∙ turned_round atoms

  module _ (identity : Identity) (namespace : List ℕ) where
    -- ---- places and their atoms

    abbrev gives_at : UserScope → List Atom → Bool
    gives_at k atoms = bytes_eq k.user identity.user && (counts k.namespace namespace && some atoms)

    abbrev some_place : List (UserScope × List Atom) → Bool
    some_place list = list_any (λ (e : UserScope × List Atom). gives_at e.0 e.1) list

    gives_nothing : (k : UserScope) → gives_at k [] ≡ false
    gives_nothing k = ap (λ t. bytes_eq k.user identity.user && t) (and_false (counts k.namespace namespace)) ∙ and_false (bytes_eq k.user identity.user)

    taken : (list : List (UserScope × List Atom)) (k : UserScope) → some_place list ≡ (some_place (remove_entry (is_at (place_cmp k)) list) || gives_at k (used_at list k))
    taken [] k = sym (gives_nothing k)
    taken (e ∷ list) k = by_test (is_eq (place_cmp k e.0)) refl (taken list k)
      where
        by_test : (c : Bool) → is_eq (place_cmp k e.0) ≡ c → some_place list ≡ (some_place (remove_entry (is_at (place_cmp k)) list) || gives_at k (used_at list k))
            → (gives_at e.0 e.1 || some_place list)
            ≡ (some_place (cond c list (e ∷ remove_entry (is_at (place_cmp k)) list)) || gives_at k (unwrap_or (cond c (Some e.1) (lookup (is_at (place_cmp k)) list)) []))
        by_test true is more =
            swapped (gives_at e.0 e.1) (some_place list) ∙ ap (λ (q : UserScope). some_place list || gives_at q e.1) (sym (place_same k e.0 ((Equal-is (place_cmp k e.0)).0 is)))
        by_test false is more =
            ap (λ t. gives_at e.0 e.1 || t) more ∙ sym (or_assoc (gives_at e.0 e.1) (some_place (remove_entry (is_at (place_cmp k)) list)) (gives_at k (used_at list k)))

    put : (list : List (UserScope × List Atom)) (k : UserScope) (v : List Atom) → lookup (is_at (place_cmp k)) list ≡ None
        → some_place (insert_entry place_cmp list k v) ≡ (some_place list || gives_at k v)
    put [] k v none = or_false (gives_at k v)
    put (e ∷ list) k v none = by_order (place_cmp k e.0) none (put list k v)
      where
        by_order : (o : Ordering) → cond (is_eq o) (Some e.1) (lookup (is_at (place_cmp k)) list) ≡ None
            → (lookup (is_at (place_cmp k)) list ≡ None → some_place (insert_entry place_cmp list k v) ≡ (some_place list || gives_at k v))
            → some_place (match_ordering o ((k, v) ∷ e ∷ list) ((e.0, v) ∷ list) (e ∷ insert_entry place_cmp list k v)) ≡ ((gives_at e.0 e.1 || some_place list) || gives_at k v)
        by_order Less none more = swapped (gives_at k v) (gives_at e.0 e.1 || some_place list)
        by_order Equal none more = absurd (cc none)
        by_order Greater none more = ap (λ t. gives_at e.0 e.1 || t) (more none) ∙ sym (or_assoc (gives_at e.0 e.1) (some_place list) (gives_at k v))

    gone : (list : List (UserScope × List Atom)) (k : UserScope) → IsStrictlySortedBy place_cmp (keys_of list) → lookup (is_at (place_cmp k)) (remove_entry (is_at (place_cmp k)) list) ≡ None
    gone list k sorted =
        delete_sets place_cmp place_total list k sorted k ∙ ap (λ c. cond c None (lookup (is_at (place_cmp k)) list)) (itself_equal k)

    one_use : (list : List (UserScope × List Atom)) (u : Question) → IsStrictlySortedBy place_cmp (keys_of list) → some_place (with_use list u) ≡ (some_place list || gives identity namespace p u)
    unfolding with_use
    one_use list u sorted = by_case (is_master u.identity)
      where
        more : gives_at (place_used u) (with_atom (used_at list (place_used u)) (atom_used u.point))
            ≡ (gives_at (place_used u) (used_at list (place_used u)) || (bytes_eq u.identity.user identity.user && (counts u.namespace namespace && atom_allows (atom_used u.point) p)))
        more =
            let old = some (used_at list (place_used u)) in
            let new = atom_allows (atom_used u.point) p in
            ap (λ t. bytes_eq u.identity.user identity.user && (counts u.namespace namespace && t)) (one_atom (used_at list (place_used u)) (atom_used u.point))
            ∙ ap (λ t. bytes_eq u.identity.user identity.user && t) (sym (and_or (counts u.namespace namespace) old new))
            ∙ sym (and_or (bytes_eq u.identity.user identity.user) (counts u.namespace namespace && old) (counts u.namespace namespace && new))

        by_case : (m : Bool)
            → some_place (if m then list
            else insert_entry place_cmp (remove_entry (is_at (place_cmp (place_used u))) list) (place_used u) (with_atom (used_at list (place_used u)) (atom_used u.point)))
            ≡ (some_place list || (not m && (bytes_eq u.identity.user identity.user && (counts u.namespace namespace && atom_allows (atom_used u.point) p))))
        by_case true = sym (or_false (some_place list))
        by_case false =
            let k = place_used u in
            let rest = remove_entry (is_at (place_cmp k)) list in
            let new = bytes_eq u.identity.user identity.user && (counts u.namespace namespace && atom_allows (atom_used u.point) p) in
            put rest k (with_atom (used_at list k) (atom_used u.point)) (gone list k sorted)
            ∙ ap (λ t. some_place rest || t) more
            ∙ sym (or_assoc (some_place rest) (gives_at k (used_at list k)) new)
            ∙ ap (λ t. t || new) (sym (taken list k))

    use_keeps : (list : List (UserScope × List Atom)) (u : Question) → IsStrictlySortedBy place_cmp (keys_of list) → IsStrictlySortedBy place_cmp (keys_of (with_use list u))
    unfolding with_use
    use_keeps list u sorted = by_case (is_master u.identity)
      where
        by_case : (m : Bool)
            → IsStrictlySortedBy place_cmp (keys_of (if m then list
            else insert_entry place_cmp (remove_entry (is_at (place_cmp (place_used u))) list) (place_used u) (with_atom (used_at list (place_used u)) (atom_used u.point))))
        by_case true = sorted
        by_case false =
            put_keeps place_cmp place_total (remove_entry (is_at (place_cmp (place_used u))) list) (place_used u) _
            (delete_keeps place_cmp place_total (is_at (place_cmp (place_used u))) list sorted)

    all_uses : (list : List (UserScope × List Atom)) (uses : List Question) → IsStrictlySortedBy place_cmp (keys_of list)
        → some_place (fold with_use list uses) ≡ (some_place list || list_any (gives identity namespace p) uses)
    all_uses list [] sorted = sym (or_false (some_place list))
    all_uses list (u ∷ uses) sorted =
        all_uses (with_use list u) uses (use_keeps list u sorted) ∙ ap (λ t. t || list_any (gives identity namespace p) uses) (one_use list u sorted)
        ∙ or_assoc (some_place list) (gives identity namespace p u) (list_any (gives identity namespace p) uses)

    -- ---- what is needed

    by_rules : (list : List (UserScope × List Atom)) (e : UserScope × List Atom) → list_any (allows_by identity namespace p) (suggested_at list e) ≡ gives_at e.0 (needed_at list e)
    by_rules list e = by_atoms (needed_at list e)
      where
        by_atoms : (atoms : List Atom) → list_any (allows_by identity namespace p) (if length atoms == 0 then [] else record { at = e.0; rules = together atoms } ∷ []) ≡ gives_at e.0 atoms
        by_atoms [] = sym (gives_nothing e.0)
        by_atoms (a ∷ atoms) =
            rw (eqb-suc-zero (length atoms))
            (or_false _ ∙ ap (λ t. bytes_eq e.0.user identity.user && (counts e.0.namespace namespace && t)) (together_allows (a ∷ atoms) p))

    among : (test : Atom → Bool) (atoms : List Atom) → some (filter test atoms) ≡ true → some atoms ≡ true
    among test [] h = h
    among test (a ∷ atoms) h = by_test (test a) h (among test atoms)
      where
        by_test : (t : Bool) → some (cond t (a ∷ filter test atoms) (filter test atoms)) ≡ true → (some (filter test atoms) ≡ true → some atoms ≡ true) → (atom_allows a p || some atoms) ≡ true
        by_test true h more = by_case (or_cases (atom_allows a p) _ h)
          where
            by_case : (atom_allows a p ≡ true) ⊎ (some (filter test atoms) ≡ true) → (atom_allows a p || some atoms) ≡ true
            by_case (inl here) = or_left _ _ here
            by_case (inr there) = or_right _ _ (more there)
        by_test false h more = or_right _ _ (more h)

    module _ (list : List (UserScope × List Atom)) where
      abbrev needs : UserScope × List Atom → Bool
      needs e = gives_at e.0 (needed_at list e)

      fewer : (e : UserScope × List Atom) → needs e ≡ true → gives_at e.0 e.1 ≡ true
      fewer e h =
          let one = and_parts _ _ h in
          let two = and_parts _ _ one.1 in
          and_from _ _ one.0 (and_from _ _ two.0 (sym (kept e.1) ∙ among (λ a. not (is_implied (used_everywhere list e.0) a)) (widest e.1) two.1))

      -- cluster-wide all is needed
      wide_kept : (e : UserScope × List Atom) → (length e.0.namespace == 0) ≡ true → needed_at list e ≡ widest e.1
      wide_kept e wide = rw wide (all_kept (widest e.1))

      enough : (e : UserScope × List Atom) → Has list e → gives_at e.0 e.1 ≡ true → list_any needs list ≡ true
      enough e has h = by_atom a.0 a.1.0 a.1.1 (is_implied (used_everywhere list e.0) a.0) refl
        where
          one : (bytes_eq e.0.user identity.user ≡ true) × ((counts e.0.namespace namespace && some e.1) ≡ true)
          one = and_parts _ _ h

          two : (counts e.0.namespace namespace ≡ true) × (some e.1 ≡ true)
          two = and_parts _ _ one.1

          a : (a : Atom) × (Has (widest e.1) a × (atom_allows a p ≡ true))
          a = passing (λ a. atom_allows a p) (widest e.1) (kept e.1 ∙ two.1)

          everywhere : (a : Atom) → atom_allows a p ≡ true → is_implied (used_at list (record { user = e.0.user; namespace = [] })) a ≡ true → list_any needs list ≡ true
          everywhere a allowed implied =
              let w = found list (record { user = e.0.user; namespace = [] }) a implied in
              let at : UserScope → Type 0 = λ k. gives_at k (needed_at list w.0) ≡ true in
              let wide : (length w.0.0.namespace == 0) ≡ true = ap (λ (k : UserScope). length k.namespace == 0) w.1.1.0 in
              let there : some (needed_at list w.0) ≡ true =
              ap some (wide_kept w.0 wide) ∙ kept w.0.1 ∙ any_weaker (λ b. implies b a) (λ b. atom_allows b p) w.0.1 (λ b i. implies_allows b a p plain i allowed) w.1.1.1 in
              some_at needs list w.0 w.1.0 (subst at (sym w.1.1.0) (and_from _ _ one.0 there))

          by_place : (a : Atom) → atom_allows a p ≡ true → (c : Bool) → is_implied (if c then [] else used_at list (record { user = e.0.user; namespace = [] })) a ≡ true → list_any needs list ≡ true
          by_place a allowed true is = absurd (cc is)
          by_place a allowed false is = everywhere a allowed is

          by_atom : (a : Atom) → Has (widest e.1) a → atom_allows a p ≡ true → (t : Bool) → is_implied (used_everywhere list e.0) a ≡ t → list_any needs list ≡ true
          by_atom a there allowed true is = by_place a allowed (length e.0.namespace == 0) is
          by_atom a there allowed false is =
              some_at needs list e has (and_from _ _ one.0 (and_from _ _ two.0 (some_at (λ a. atom_allows a p) (needed_at list e) a
              (has_kept (λ a. not (is_implied (used_everywhere list e.0) a)) (widest e.1) a there (ap not is)) allowed)))

      needed_enough : list_any needs list ≡ some_place list
      needed_enough =
          by_truth _ _ (any_weaker needs (λ (e : UserScope × List Atom). gives_at e.0 e.1) list fewer)
          (λ h. let e = passing (λ (e : UserScope × List Atom). gives_at e.0 e.1) list h in enough e.0 e.1.0 e.1.1)

    -- ---- the law

    none_sorted : IsStrictlySortedBy place_cmp (keys_of (let none : List (UserScope × List Atom) = [] in none))
    unfolding IsStrictlySortedBy
    none_sorted = tt

    pub exact : (uses : List Question) → (is_master identity || list_any (allows_by identity namespace p) (suggested uses)) ≡ given_by uses identity namespace p
    unfolding suggested
    exact uses =
        ap (λ t. is_master identity || t)
        (any_flat_map (allows_by identity namespace p) (suggested_at (used uses)) (used uses) ∙ any_same _ _ (used uses) (by_rules (used uses))
        ∙ needed_enough (used uses) ∙ all_uses [] uses none_sorted)
