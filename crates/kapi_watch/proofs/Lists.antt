-- What is due to a watch, on top of the list at its start, is the list now.
use Rattle.std.proofs.Common.{◌≡◌, ℕ, ◌+◌, ◌≤◌, Bool, true, false, cond, List, [], ◌∷◌, ◌++◌, Option, None, Some, IfSome, length, map, refl, sym, ap, ◌∙◌, subst, arith, append-nil, append_assoc, ⊎_elim, if◌then◌else◌, option_map}
use Rattle.std.specs.Prelude.{nat_le, nat_lt}
use Rattle.std.specs.List.{AllByRecursion, filter, cons_option}
use Rattle.std.specs.List.Sorted.{IsStrictlySortedBy}
use Rattle.std.specs.Map.{lookup, keys_of}
use Rattle.std.proofs.lemmas.Bool.{lt-ltb, le-ltb, le-leb, lt-leb, cases_lt}
use Rattle.std.proofs.lemmas.List.{map-append}
use Rattle.serde_json.specs.Data.{Data}
use Rattle.kapi_store.proofs.Keys.{key_same, key_total}
use Rattle.kapi_store.proofs.SlotSteps.{remove_absent}
use Rattle.kapi_store.proofs.Writes.{placed_all_append}
use Rattle.kapi_store.specs.Changes.{placed, placed_all, Follow}
use Rattle.kapi_store.specs.Keys.{is_key, key_cmp}
use Rattle.kapi_store.specs.Listing.{is_listed}
use Rattle.kapi_store.specs.Plain.{Plain, PlainChange, trees_left_by}
use Rattle.kapi_store.specs.declared.key.Key.{Key}
use Rattle.kapi_watch.specs.declared.scope.WatchScope.{WatchScope}
use Rattle.kapi_watch.specs.Histories.{IsNamedBy, AreMadeOf, IsHistory}
use Rattle.kapi_watch.specs.Lists.{objects_after, up_to, listed, list_at, list_now, place_in, on_top, all_on_top, DueRebuildsList, FirstRebuildsList, ShownRebuildsList, FirstShownRebuildsList, StoreShowsTheList, StoreShowedTheList}
use Rattle.kapi_watch.specs.Runs.{Step, Made, Pump, HoldsOn, history_after, watch_after, shown_over, still_due}
use Rattle.kapi_store.specs.Gone.{at_version}
use Rattle.kapi_watch.specs.Shown.{Shown, Added, selected, shown_by, shown_of}
use Rattle.kapi_watch.specs.Watches.{PlainWatch, due, later, shown_all, started_at, started_now}
use Rattle.kapi_watch.proofs.Maps.{insert_sorted, remove_sorted, insert_all, remove_all, lookup_all, filter_sorted, last_in, above_front, filter_insert, filter_insert_other, filter_remove, filter_absent}
use Rattle.kapi_watch.proofs.Named.{named_at_version, place_is}
use Rattle.kapi_watch.proofs.Runs.{shows}

-- ---- the changes up to a revision, and those after it

module _ {X : Type 0} (number : X → ℕ) where
  none_up_to : (limit before : ℕ) (xs : List X) → limit ≤ before → Follow number before xs → filter (λ x. nat_le (number x) limit) xs ≡ []
  unfolding Follow
  none_up_to limit before [] le h = refl
  none_up_to limit before (x ∷ xs) le h = rw (lt-leb (number x) limit (omega arith)) (none_up_to limit (before + 1) xs (omega arith) h.1)

  all_later : (limit before : ℕ) (xs : List X) → limit ≤ before → Follow number before xs → filter (λ x. nat_lt limit (number x)) xs ≡ xs
  unfolding Follow
  all_later limit before [] le h = refl
  all_later limit before (x ∷ xs) le h = rw (lt-ltb limit (number x) (omega arith)) (ap (λ l. x ∷ l) (all_later limit (before + 1) xs (omega arith) h.1))

  -- of numbered items those up to a limit come first
  parted : (limit before : ℕ) (xs : List X) → Follow number before xs → filter (λ x. nat_le (number x) limit) xs ++ filter (λ x. nat_lt limit (number x)) xs ≡ xs
  unfolding Follow
  parted limit before [] h = refl
  parted limit before (x ∷ xs) h = ⊎_elim
      (λ lt. rw (lt-leb (number x) limit lt, lt-ltb limit (number x) lt) (rw (none_up_to limit (before + 1) xs (omega arith) h.1) (ap (λ l. x ∷ l) (all_later limit (before + 1) xs (omega arith) h.1))))
      (λ le. rw (le-leb (number x) limit le, le-ltb limit (number x) le) (ap (λ l. x ∷ l) (parted limit (before + 1) xs h.1)))
      (cases_lt limit (number x))

-- those up to the last of the first items are these
up_to_front : {X : Type 0} (number : X → ℕ) (limit before : ℕ) (xs ys : List X) → limit ≡ before + length xs → Follow number before (xs ++ ys) → filter (λ x. nat_le (number x) limit) (xs ++ ys) ≡ xs
unfolding Follow
up_to_front number limit before [] ys is h = none_up_to number limit before ys (omega arith) h
up_to_front number limit before (x ∷ xs) ys is h =
    rw (le-leb (number x) limit (omega arith)) (ap (λ l. x ∷ l) (up_to_front number limit (before + 1) xs ys (omega arith) h.1))

-- ---- the objects that changes make

-- the objects are in the order of their keys, and each has the namespace and the name of its own
pub record Keeps (os : List (Key × Data)) : Type 0 where
  pub sorted : IsStrictlySortedBy key_cmp (keys_of os)
  pub named : AllByRecursion (λ e. IsNamedBy e.0 e.1) os

keeps_none : Keeps []
unfolding IsStrictlySortedBy
keeps_none = record { sorted = tt; named = tt }

keeps_placed : (k : Key) (o : Option Data) (os : List (Key × Data)) → IfSome o (IsNamedBy k) → Keeps os → Keeps (placed k o os)
unfolding placed
keeps_placed k None os named h = record {
  sorted = remove_sorted key_cmp key_total key_same (is_key k) os h.sorted;
  named = remove_all key_cmp key_total key_same (is_key k) (λ e. IsNamedBy e.0 e.1) os h.named;
}
keeps_placed k (Some tree) os named h = record {
  sorted = insert_sorted key_cmp key_total key_same k tree os h.sorted;
  named = insert_all key_cmp key_total key_same (λ e. IsNamedBy e.0 e.1) k tree os named h.named;
}

record After (os : List (Key × Data)) (cs : List PlainChange) : Type 0 where
  keeps : Keeps os
  made : AreMadeOf os cs

-- after the first changes the others are made of what these left
after_first : (xs ys : List PlainChange) (os : List (Key × Data)) → Keeps os → AreMadeOf os (xs ++ ys) → After (placed_all (trees_left_by xs) os) ys
unfolding AreMadeOf placed_all
after_first [] ys os k m = record { keeps = k; made = m }
after_first (c ∷ xs) ys os k m = after_first xs ys (placed c.key c.new os) (keeps_placed c.key c.new os m.1 k) m.2

-- the objects that a history made are in order and named by their keys
pub history_keeps : (first : ℕ) (h : List PlainChange) → IsHistory first h → Keeps (objects_after h)
history_keeps first h k = let P : List PlainChange → Type 0 = AreMadeOf [] in (after_first h [] [] keeps_none (subst P (sym (append-nil h)) k.made)).keeps

-- the tree at a key has that key's namespace and name, if all do
pub standing_is_named : (k : Key) (tree : Data) (os : List (Key × Data)) → AllByRecursion (λ e. IsNamedBy e.0 e.1) os → lookup (is_key k) os ≡ Some tree → IsNamedBy k tree
standing_is_named k tree os named is = lookup_all key_cmp key_total key_same (λ e. IsNamedBy e.0 e.1) k tree os named is

-- ---- the events of a list, and what they tell

abbrev trees_in : List (Key × Data) → List Data
trees_in es = map (λ e. e.1) es

abbrev first_due : ℕ → List Data → List (ℕ × Shown)
first_due revision trees = map (λ tree. (revision, Added tree)) trees

abbrev events_in : List (ℕ × Shown) → List Shown
events_in es = map (λ e. e.1) es

-- ---- one change

module _ (scope : WatchScope) where
  abbrev takes : Key × Data → Bool
  takes e = is_listed scope.row scope.namespace scope.selector scope.name e.0 e.1

  -- the list after a write is the list with what is selected of it
  listed_placed : (k : Key) (o : Option Data) (os : List (Key × Data)) → IsStrictlySortedBy key_cmp (keys_of os) → listed scope (placed k o os) ≡ placed k (selected scope k o) (listed scope os)
  unfolding placed
  listed_placed k None os s = filter_remove key_cmp key_total key_same takes k os s
  listed_placed k (Some tree) os s =
      elim (takes (k, tree)) as (λ b. takes (k, tree) ≡ b → listed scope (placed k (Some tree) os) ≡ placed k (if b then Some tree else None) (listed scope os)) [
        | true ↦ λ is. filter_insert key_cmp key_total key_same takes k tree os s is
        | false ↦ λ is. filter_insert_other key_cmp key_total key_same takes k tree os s is
      ] refl

  -- if the object of a key is not selected, nothing is taken out there
  selected_none : (k : Key) (tree : Data) → selected scope k (Some tree) ≡ None → takes (k, tree) ≡ false
  selected_none k tree none =
      elim (takes (k, tree)) as (λ b. (if b then Some tree else None) ≡ None → b ≡ false) [ true ↦ λ e. absurd (cc e) | false ↦ λ e. refl ] none

  nothing_out : (k : Key) (old : Option Data) (os : List (Key × Data)) → IsStrictlySortedBy key_cmp (keys_of os) → old ≡ lookup (is_key k) os → selected scope k old ≡ None
      → placed k None (listed scope os) ≡ listed scope os
  unfolding placed
  nothing_out k old os s is none =
      remove_absent (is_key k) (listed scope os) (filter_absent key_cmp key_total key_same takes k os s (λ x at. selected_none k x (ap (selected scope k) (sym (is ∙ at)) ∙ none)))

  -- what is selected is listed, and is what there was
  record Chosen (k : Key) (o : Option Data) (tree : Data) : Type 0 where
    same : o ≡ Some tree
    chosen : takes (k, tree) ≡ true

  chosen_is : (k : Key) (o : Option Data) (tree : Data) → selected scope k o ≡ Some tree → Chosen k o tree
  chosen_is k None tree is = absurd (cc is)
  chosen_is k (Some t) tree is =
      elim (takes (k, t)) as (λ b. takes (k, t) ≡ b → (if b then Some t else None) ≡ Some tree → Chosen k (Some t) tree) [
        | true ↦ λ takes_it. λ e. let this : t ≡ tree = cc in record { same = e; chosen = ap (λ u. takes (k, u)) (sym this) ∙ takes_it }
        | false ↦ λ leaves_it. λ e. absurd (cc e)
      ] refl is

  -- the place of a new tree is its key, also with another version
  place_new : (k : Key) (o : Option Data) (tree : Data) → IfSome o (IsNamedBy k) → selected scope k o ≡ Some tree → place_in scope tree ≡ k
  place_new k o tree named is =
      let c = chosen_is k o tree is in
      let P : Option Data → Type 0 = λ u. IfSome u (IsNamedBy k) in
      place_is scope k tree tree c.chosen (subst P c.same named)

  place_old : (k : Key) (o : Option Data) (tree : Data) (revision : ℕ) → IfSome o (IsNamedBy k) → selected scope k o ≡ Some tree → place_in scope (at_version revision tree) ≡ k
  place_old k o tree revision named is =
      let c = chosen_is k o tree is in
      let P : Option Data → Type 0 = λ u. IfSome u (IsNamedBy k) in
      place_is scope k tree (at_version revision tree) c.chosen (named_at_version k revision tree (subst P c.same named))

  -- what a change shows, on top of a list
  abbrev shown_on_top : List (Key × Data) → Option Shown → List (Key × Data)
  shown_on_top list None = list
  shown_on_top list (Some event) = on_top scope list event

  event_on_top : (k : Key) (revision : ℕ) (list : List (Key × Data)) (before after : Option Data)
      → (before ≡ None → placed k None list ≡ list) → ((t : Data) → before ≡ Some t → place_in scope (at_version revision t) ≡ k) → ((t : Data) → after ≡ Some t → place_in scope t ≡ k)
      → shown_on_top list (shown_by revision before after) ≡ placed k after list
  event_on_top k revision list None None out old new = sym (out refl)
  event_on_top k revision list None (Some t) out old new = ap (λ j. placed j (Some t) list) (new t refl)
  event_on_top k revision list (Some o) (Some t) out old new = ap (λ j. placed j (Some t) list) (new t refl)
  event_on_top k revision list (Some o) None out old new = ap (λ j. placed j None list) (old o refl)

  standing_named : (k : Key) (old : Option Data) (os : List (Key × Data)) → Keeps os → old ≡ lookup (is_key k) os → IfSome old (IsNamedBy k)
  standing_named k old os h is =
      elim old as (λ o. old ≡ o → IfSome o (IsNamedBy k)) [
        | None ↦ λ none. tt
        | Some t ↦ λ some. standing_is_named k t os h.named (sym is ∙ some)
      ] refl

  step : (c : PlainChange) (os : List (Key × Data)) → Keeps os → c.old ≡ lookup (is_key c.key) os → IfSome c.new (IsNamedBy c.key)
      → shown_on_top (listed scope os) (shown_by c.revision (selected scope c.key c.old) (selected scope c.key c.new)) ≡ listed scope (placed c.key c.new os)
  step c os h is named =
      event_on_top c.key c.revision (listed scope os) (selected scope c.key c.old) (selected scope c.key c.new)
      (nothing_out c.key c.old os h.sorted is)
      (λ t e. place_old c.key c.old t c.revision (standing_named c.key c.old os h is) e)
      (λ t e. place_new c.key c.new t named e)
      ∙ sym (listed_placed c.key c.new os h.sorted)

  -- ---- what is listed first

  -- the place of each tree of a list is its key
  places : (os : List (Key × Data)) → AllByRecursion (λ e. IsNamedBy e.0 e.1) os → AllByRecursion (λ e. place_in scope e.1 ≡ e.0) (listed scope os)
  places [] h = tt
  places (e ∷ os) h =
      elim (takes e) as (λ b. takes e ≡ b → AllByRecursion (λ e. place_in scope e.1 ≡ e.0) (cond b (e ∷ listed scope os) (listed scope os))) [
        | true ↦ λ is. (place_is scope e.0 e.1 e.1 is h.0, places os h.1)
        | false ↦ λ is. places os h.1
      ] refl

  -- the trees of a list, added one after the other, are the list
  added : (revision : ℕ) (es fs : List (Key × Data)) → IsStrictlySortedBy key_cmp (keys_of (es ++ fs)) → AllByRecursion (λ e. place_in scope e.1 ≡ e.0) fs
      → all_on_top scope es (events_in (first_due revision (trees_in fs))) ≡ es ++ fs
  unfolding placed
  added revision es [] s h = sym (append-nil es)
  added revision es (e ∷ fs) s h =
      let rest : List Shown = events_in (first_due revision (trees_in fs)) in
      let P : List (Key × Data) → Type 0 = λ l. IsStrictlySortedBy key_cmp (keys_of l) in
      let at : placed (place_in scope e.1) (Some e.1) es ≡ placed e.0 (Some e.1) es = ap (λ k. placed k (Some e.1) es) h.0 in
      let end : placed e.0 (Some e.1) es ≡ es ++ e ∷ [] = last_in key_cmp e.0 e.1 es (above_front key_cmp key_total key_same es e fs s) in
      ap (λ l. all_on_top scope l rest) (at ∙ end)
      ∙ added revision (es ++ e ∷ []) fs (subst P (sym (append_assoc es (e ∷ []) fs)) s) h.1
      ∙ append_assoc es (e ∷ []) fs

  on_top_append : (list : List (Key × Data)) (xs ys : List Shown) → all_on_top scope list (xs ++ ys) ≡ all_on_top scope (all_on_top scope list xs) ys
  on_top_append list [] ys = refl
  on_top_append list (x ∷ xs) ys = on_top_append (on_top scope list x) xs ys

  -- ---- all of them

  one_more : (revision : ℕ) (list : List (Key × Data)) (o : Option Shown) (rest : List (ℕ × Shown))
      → all_on_top scope list (events_in (cons_option (option_map (λ e. (revision, e)) o) rest)) ≡ all_on_top scope (shown_on_top list o) (events_in rest)
  one_more revision list None rest = refl
  one_more revision list (Some e) rest = refl

  makes : (cs : List PlainChange) (os : List (Key × Data)) → Keeps os → AreMadeOf os cs
      → all_on_top scope (listed scope os) (events_in (shown_all scope cs)) ≡ listed scope (placed_all (trees_left_by cs) os)
  unfolding AreMadeOf placed_all shown_of
  makes [] os k m = refl
  makes (c ∷ cs) os k m =
      one_more c.revision (listed scope os) (shown_by c.revision (selected scope c.key c.old) (selected scope c.key c.new)) (shown_all scope cs)
      ∙ ap (λ list. all_on_top scope list (events_in (shown_all scope cs))) (step c os k m.0 m.1)
      ∙ makes cs (placed c.key c.new os) (keeps_placed c.key c.new os m.1 k) m.2

-- the objects after all changes are what those after a revision make of those at it
objects_parted : (first revision : ℕ) (h : List PlainChange) → Follow (λ c. c.revision) first h
    → placed_all (trees_left_by (later revision h)) (objects_after (up_to revision h)) ≡ objects_after h
objects_parted first revision h numbered =
    sym (placed_all_append (trees_left_by (up_to revision h)) (trees_left_by (later revision h)) [])
    ∙ ap (λ ws. placed_all ws []) (sym (map-append (λ c. (c.key, c.new)) (up_to revision h) (later revision h)))
    ∙ ap objects_after (parted (λ c. c.revision) revision first h numbered)

pub due_rebuilds_list : DueRebuildsList
unfolding due
due_rebuilds_list first h scope revision k =
    let P : List PlainChange → Type 0 = AreMadeOf [] in
    let at : After (objects_after (up_to revision h)) (later revision h) = after_first (up_to revision h) (later revision h) [] keeps_none (subst P (sym (parted (λ c. c.revision) revision first h k.numbered)) k.made) in
    makes scope (later revision h) (objects_after (up_to revision h)) at.keeps at.made
    ∙ ap (listed scope) (objects_parted first revision h k.numbered)

-- ---- the lists are the store's

-- the changes up to the revision that counts a part of a history are that part
up_to_counted : (h more : List PlainChange) (s : Plain) → s.revision ≡ s.first + length h → IsHistory s.first (h ++ more) → up_to s.revision (h ++ more) ≡ h
up_to_counted h more s counted k = up_to_front (λ c. c.revision) s.revision s.first h more counted k.numbered

-- the list at that revision is the one of the objects that the part made
pub counted_showed : (h more : List PlainChange) (s : Plain) (scope : WatchScope) → s.objects ≡ placed_all (trees_left_by h) [] → s.revision ≡ s.first + length h → IsHistory s.first (h ++ more)
    → list_at scope s.revision (h ++ more) ≡ listed scope s.objects
counted_showed h more s scope made counted k = ap (λ cs. listed scope (objects_after cs)) (up_to_counted h more s counted k) ∙ ap (listed scope) (sym made)

pub store_shows : StoreShowsTheList
store_shows store h s scope stands = ap (listed scope) (sym stands.made ∙ ap (λ p. p.objects) (sym stands.plain))

pub store_showed : StoreShowedTheList
store_showed store h more s scope stands k =
    let number : store.revision ≡ s.revision = ap (λ p. p.revision) stands.plain in
    ap (λ revision. list_at scope revision (h ++ more)) number
    ∙ ap (λ cs. listed scope (objects_after cs)) (up_to_counted h more s stands.counted k)
    ∙ store_shows store h s scope stands

-- ---- a watch that shows what is listed first

-- a watch that shows the objects first makes the list at its start
first_made : (revision : ℕ) (scope : WatchScope) (os : List (Key × Data)) → Keeps os → all_on_top scope [] (events_in (first_due revision (trees_in (listed scope os)))) ≡ listed scope os
first_made revision scope os k =
    added scope revision [] (listed scope os) (filter_sorted key_cmp key_total key_same (takes scope) os k.sorted) (places scope os k.named)

pub counted_first_is_the_list : (h more : List PlainChange) (s : Plain) (scope : WatchScope) → s.objects ≡ placed_all (trees_left_by h) [] → s.revision ≡ s.first + length h
    → IsHistory s.first (h ++ more) → all_on_top scope [] (still_due (h ++ more) (started_now s scope)) ≡ list_now scope (h ++ more)
unfolding due
counted_first_is_the_list h more s scope made counted k =
    let at : After (objects_after h) more = after_first h more [] keeps_none k.made in
    let front : List (ℕ × Shown) = first_due s.revision (trees_in (listed scope s.objects)) in
    let back : List (ℕ × Shown) = shown_all scope (later s.revision (h ++ more)) in
    let keeps : Keeps s.objects = subst Keeps (sym made) at.keeps in
    let start : listed scope s.objects ≡ list_at scope s.revision (h ++ more) = sym (counted_showed h more s scope made counted k) in
    ap (all_on_top scope []) (map-append (λ e. e.1) front back)
    ∙ on_top_append scope [] (events_in front) (events_in back)
    ∙ ap (λ list. all_on_top scope list (events_in back)) (first_made s.revision scope s.objects keeps ∙ start)
    ∙ due_rebuilds_list s.first (h ++ more) scope s.revision k

pub first_rebuilds_list : FirstRebuildsList
first_rebuilds_list store h more s scope stands k = counted_first_is_the_list h more s scope stands.made stands.counted k

-- ---- what was shown

-- if nothing is due any more, what was shown is what was due
shown_is_due : (ts : List Step) (h : List PlainChange) (s : Plain) (w : PlainWatch) → HoldsOn ts h s w → still_due (history_after ts h) (watch_after ts h s w) ≡ []
    → shown_over ts h s w ≡ still_due (history_after ts h) w
shown_is_due ts h s w holds none = sym (shows ts h s w holds ∙ ap (λ l. shown_over ts h s w ++ l) none ∙ append-nil (shown_over ts h s w))

pub shown_rebuilds_list : ShownRebuildsList
shown_rebuilds_list first ts h s scope revision k holds none =
    ap (all_on_top scope (list_at scope revision (history_after ts h))) (shown_is_due ts h s (started_at scope revision) holds none)
    ∙ due_rebuilds_list first (history_after ts h) scope revision k

-- the changes that are made in a run
made_in : List Step → List PlainChange
made_in [] = []
made_in (Made cs ∷ ts) = cs ++ made_in ts
made_in (Pump ∷ ts) = made_in ts

history_goes_on : (ts : List Step) (h : List PlainChange) → history_after ts h ≡ h ++ made_in ts
unfolding history_after made_in
history_goes_on [] h = sym (append-nil h)
history_goes_on (Made cs ∷ ts) h = history_goes_on ts (h ++ cs) ∙ append_assoc h cs (made_in ts)
history_goes_on (Pump ∷ ts) h = history_goes_on ts h

pub counted_first_shown : (ts : List Step) (h : List PlainChange) (s : Plain) (scope : WatchScope) → s.objects ≡ placed_all (trees_left_by h) [] → s.revision ≡ s.first + length h
    → IsHistory s.first (history_after ts h) → HoldsOn ts h s (started_now s scope) → still_due (history_after ts h) (watch_after ts h s (started_now s scope)) ≡ []
    → all_on_top scope [] (shown_over ts h s (started_now s scope)) ≡ list_now scope (history_after ts h)
counted_first_shown ts h s scope made counted k holds none =
    let all : history_after ts h ≡ h ++ made_in ts = history_goes_on ts h in
    let P : List PlainChange → Type 0 = λ now. all_on_top scope [] (still_due now (started_now s scope)) ≡ list_now scope now in
    let Q : List PlainChange → Type 0 = λ now. IsHistory s.first now in
    ap (all_on_top scope []) (shown_is_due ts h s (started_now s scope) holds none)
    ∙ subst P (sym all) (counted_first_is_the_list h (made_in ts) s scope made counted (subst Q all k))

pub first_shown_rebuilds_list : FirstShownRebuildsList
first_shown_rebuilds_list store ts h s scope stands k holds none = counted_first_shown ts h s scope stands.made stands.counted k holds none
