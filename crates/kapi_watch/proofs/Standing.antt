-- The model that a running watch refines, from one pump to the next.
use Rattle.std.proofs.Common.{◌≡◌, ℕ, zero, suc, ◌+◌, ◌≤◌, ◌<◌, Bool, true, false, List, [], ◌∷◌, ◌++◌, Option, None, Some, Result, Ok, Err, option_map, if◌then◌else◌, nat_lt, map, length, drop, slice_get, refl, sym, ap, ◌∙◌, subst, arith}
use Rattle.std.proofs.Math.Dec.{eqb-suc-zero}
use Rattle.std.proofs.lemmas.Bool.{lt-ltb, le-ltb, ltb-false}
use Rattle.std.proofs.lemmas.List.{length-map}
use Rattle.std.proofs.lemmas.Option.{slice_get_within, slice_get-map}
use Rattle.kapi_store.specs.declared.stored.StoredObject.{StoredObject}
use Rattle.kapi_store.specs.Stored.{stored_tree}
use Rattle.kapi_store.specs.declared.key.Key.{Key}
use Rattle.kapi_store.specs.Changes.{Follow}
use Rattle.kapi_store.specs.Plain.{Plain, PlainChange, changes_after, trees}
use Rattle.kapi_watch.specs.declared.scope.WatchScope.{WatchScope}
use Rattle.kapi_watch.specs.declared.watch.Watch.{Watch}
use Rattle.kapi_watch.specs.Shown.{Shown, Added, shown_of, shown_by, selected}
use Rattle.kapi_watch.specs.Watches.{PlainWatch, TooLarge, TooOld, WatchFault, is_gone, startable, shown_all, later, due, is_expired, pumped, moved, after_pump}
use Rattle.kapi_watch.specs.Private.Looked.{first_in, position_after, shown_in}
use Rattle.kapi_watch.specs.Running.{IsFresh, RefinesWatch, watch_data}
use Rattle.kapi_watch.proofs.Due.{drop_front, Behind, behind_first, past_none}

module _ {X : Type 0} where
  pub slice_zero : (xs : List X) (n : ℕ) → slice_get xs n ≡ slice_get (drop n xs) 0
  slice_zero [] zero = refl
  slice_zero [] (suc n) = refl
  slice_zero (x ∷ xs) zero = refl
  slice_zero (x ∷ xs) (suc n) = slice_zero xs n

  drop_next : (xs ys : List X) (n : ℕ) (y : X) → drop n xs ≡ y ∷ ys → drop (n + 1) xs ≡ ys
  drop_next xs ys n y is =
      let at : slice_get xs n ≡ Some y = slice_zero xs n ∙ ap (λ l. slice_get l 0) is in
      let front : drop n xs ≡ y ∷ drop (n + 1) xs = drop_front xs n y at in
      let both : y ∷ drop (n + 1) xs ≡ y ∷ ys = sym front ∙ is in
      cc

  drop_past : (xs : List X) (n : ℕ) → length xs ≤ n → drop n xs ≡ []
  drop_past [] zero le = refl
  drop_past [] (suc n) le = refl
  drop_past (x ∷ xs) zero le = absurd (omega arith)
  drop_past (x ∷ xs) (suc n) le = drop_past xs n (omega arith)

  pub slice_none : (xs : List X) → slice_get xs 0 ≡ None → xs ≡ []
  slice_none [] is = refl
  slice_none (x ∷ xs) is = cc

  slice_some : (xs : List X) (i : ℕ) → i < length xs → (x : X) × (slice_get xs i ≡ Some x)
  slice_some [] i lt = absurd (omega arith)
  slice_some (x ∷ xs) zero lt = (x, refl)
  slice_some (x ∷ xs) (suc i) lt = slice_some xs i (omega arith)

own_pair : (r : ℕ) (o : Option Shown) (e : ℕ × Shown) → option_map (λ x. (r, x)) o ≡ Some e → e.0 ≡ r
own_pair r None e is = cc
own_pair r (Some x) e is = let k : (r, x) ≡ e = cc in ap (λ p. p.0) (sym k)

-- what a change shows has the change's revision
pub shown_own : (scope : WatchScope) (c : PlainChange) (e : ℕ × Shown) → shown_of scope c ≡ Some e → e.0 ≡ c.revision
unfolding shown_of
shown_own scope c e is = own_pair c.revision (shown_by c.revision (selected scope c.key c.old) (selected scope c.key c.new)) e is

module _ (r : Watch) (h : List PlainChange) (s : Plain) (w : PlainWatch) (k : RefinesWatch r h s w) where
  as_many : length w.first ≡ length r.first
  as_many = ap length k.first ∙ length-map r.first stored_tree

  -- while the objects that are shown first last
  first_lasts : r.told < length r.first → is_expired s w ≡ false
  unfolding is_expired
  first_lasts lt =
      let b = k.begun lt in
      let n : w.shown ≡ r.told = b.0 in
      let len : length w.first ≡ length r.first = as_many in
      rw (lt-ltb w.shown (length w.first) (omega arith)) refl

  first_left : (o : StoredObject) → slice_get r.first r.told ≡ Some o
      → drop w.shown (due h w) ≡ (w.start, Added (stored_tree o)) ∷ (map (λ tree. (w.start, Added tree)) (drop (r.told + 1) w.first) ++ shown_all w.scope (later w.position h))
  first_left o at =
      let there : slice_get w.first r.told ≡ Some (stored_tree o) = ap (λ l. slice_get l r.told) k.first ∙ slice_get-map stored_tree r.first r.told ∙ ap (option_map stored_tree) at in
      let front : drop r.told w.first ≡ stored_tree o ∷ drop (r.told + 1) w.first = drop_front w.first r.told (stored_tree o) there in
      k.rest ∙ ap (λ l. map (λ tree. (w.start, Added tree)) l ++ shown_all w.scope (later w.position h)) front

  first_at : (o : StoredObject) → slice_get r.first r.told ≡ Some o → slice_get (due h w) w.shown ≡ Some (w.start, Added (stored_tree o))
  first_at o at = slice_zero (due h w) w.shown ∙ ap (λ l. slice_get l 0) (first_left o at)

  pub first_pumped : (o : StoredObject) → slice_get r.first r.told ≡ Some o → Some (Added (stored_tree o)) ≡ pumped h s w
  first_pumped o at = rw (first_lasts (slice_get_within r.first r.told o at), first_at o at) refl

  first_moved : (o : StoredObject) → slice_get r.first r.told ≡ Some o
      → RefinesWatch (record r { told = r.told + 1 }) h s (record w { shown = w.shown + 1; position = w.start })
  unfolding due
  first_moved o at =
      let lt : r.told < length r.first = slice_get_within r.first r.told o at in
      let b = k.begun lt in
      let n : w.shown ≡ r.told = b.0 in
      let len : length w.first ≡ length r.first = as_many in
      let left = first_left o at in
      let within : w.shown < length (due h w) = slice_get_within (due h w) w.shown (w.start, Added (stored_tree o)) (first_at o at) in
      let F : ℕ → List (ℕ × Shown) = λ p. map (λ tree. (w.start, Added tree)) (drop (r.told + 1) w.first) ++ shown_all w.scope (later p h) in
      record {
        scope = k.scope;
        position = sym b.1 ∙ k.position;
        first = k.first;
        begun = λ _. (ap (λ m. m + 1) n, refl);
        ended = λ le. omega arith;
        rest = drop_next (due h w) (F w.position) w.shown (w.start, Added (stored_tree o)) left ∙ ap F b.1;
        within = omega arith;
        known = k.known;
        stood = k.known;
        runs = k.runs;
      }

  first_after : (o : StoredObject) → slice_get r.first r.told ≡ Some o → RefinesWatch (record r { told = r.told + 1 }) h s (after_pump h s w)
  first_after o at = rw (first_lasts (slice_get_within r.first r.told o at), first_at o at) (first_moved o at)

  pub first_after_one : r.told < length r.first → RefinesWatch (record r { told = r.told + 1 }) h s (after_pump h s w)
  first_after_one lt = let there = slice_some r.first r.told lt in first_after there.0 there.1

  -- the next event of a watch that has shown all first objects
  module _ (over : length r.first ≤ r.told) where
    rest_gone : is_expired s w ≡ is_gone s w.position
    unfolding is_expired
    rest_gone = let le : length w.first ≤ w.shown = k.ended over in rw (le-ltb w.shown (length w.first) le) refl

    rest_left : drop w.shown (due h w) ≡ shown_all w.scope (later w.position h)
    rest_left =
        let len : length w.first ≡ length r.first = as_many in
        k.rest ∙ ap (λ l. map (λ tree. (w.start, Added tree)) l ++ shown_all w.scope (later w.position h)) (drop_past w.first r.told (omega arith))

    rest_at : slice_get (due h w) w.shown ≡ slice_get (shown_all w.scope (later w.position h)) 0
    rest_at = slice_zero (due h w) w.shown ∙ ap (λ l. slice_get l 0) rest_left

    rest_moved : (p n : ℕ) → drop n (due h w) ≡ shown_all w.scope (later p h) → n ≤ length (due h w) → w.shown ≤ n → p ≤ s.revision
        → RefinesWatch (record r { position = p }) h s (record w { shown = n; position = p })
    unfolding due
    rest_moved p n is within more le =
        let len : length w.first ≡ length r.first = as_many in
        let shown : length w.first ≤ w.shown = k.ended over in
        record {
          scope = k.scope;
          position = refl;
          first = k.first;
          begun = λ lt. absurd (omega arith);
          ended = λ _. omega arith;
          rest = is ∙ ap (λ l. map (λ tree. (w.start, Added tree)) l ++ shown_all w.scope (later p h)) (sym (drop_past w.first r.told (omega arith)));
          within = within;
          known = k.known;
          stood = le;
          runs = k.runs;
        }

    by_gone : (b : Bool) → is_gone s w.position ≡ b → shown_in (first_in w.scope (changes_after h s w.position)) ≡ pumped h s w
    unfolding changes_after
    by_gone true e = rw (rest_gone, e) refl
    by_gone false e = rw (rest_gone, e, rest_at) refl

    same_place : first_in w.scope (changes_after h s w.position) ≡ first_in r.scope (changes_after h s r.position)
    same_place =
        ap (λ scope. first_in scope (changes_after h s w.position)) k.scope ∙ ap (λ p. first_in r.scope (changes_after h s p)) k.position

    pub rest_pumped : shown_in (first_in r.scope (changes_after h s r.position)) ≡ pumped h s w
    rest_pumped = ap shown_in (sym same_place) ∙ by_gone (is_gone s w.position) refl

    module _ (numbered : Follow (λ c. c.revision) s.first h) (counted : s.revision ≡ s.first + length h) where
      by_found : (o : Option (ℕ × Shown)) → slice_get (shown_all w.scope (later w.position h)) 0 ≡ o
          → RefinesWatch (record r { position = position_after s w.position (Ok o) }) h s (moved s w o)
      by_found None is =
          let none : later s.revision h ≡ [] = past_none (λ c. c.revision) (shown_of w.scope) (shown_own w.scope) s.revision s.first h (omega arith) numbered in
          let left : shown_all w.scope (later w.position h) ≡ [] = slice_none (shown_all w.scope (later w.position h)) is in
          rest_moved s.revision w.shown (rest_left ∙ left ∙ ap (shown_all w.scope) (sym none)) k.within (omega arith) (omega arith)
      by_found (Some e) is =
          let all : List (ℕ × Shown) = shown_all w.scope (later w.position h) in
          let front : all ≡ e ∷ drop 1 all = drop_front all 0 e is in
          let b : Behind (λ c. c.revision) (shown_of w.scope) (shown_own w.scope) w.position s.first h e (drop 1 all) = behind_first (λ c. c.revision) (shown_of w.scope) (shown_own w.scope) w.position s.first h e (drop 1 all) numbered front in
          let within : w.shown < length (due h w) = slice_get_within (due h w) w.shown e (rest_at ∙ is) in
          let last : e.0 ≤ s.first + length h = b.within in
          rest_moved e.0 (w.shown + 1) (drop_next (due h w) (drop 1 all) w.shown e (rest_left ∙ front) ∙ sym b.rest) (omega arith) (omega arith) (omega arith)

      by_gone_after : (b : Bool) → is_gone s w.position ≡ b
          → RefinesWatch (record r { position = position_after s w.position (first_in w.scope (changes_after h s w.position)) }) h s (after_pump h s w)
      unfolding changes_after
      by_gone_after true e = rw (rest_gone, e) (rest_moved w.position w.shown rest_left k.within (omega arith) k.stood)
      by_gone_after false e = rw (rest_gone, e, rest_at) (by_found (slice_get (shown_all w.scope (later w.position h)) 0) refl)

      pub rest_after : RefinesWatch (record r { position = position_after s r.position (first_in r.scope (changes_after h s r.position)) }) h s (after_pump h s w)
      rest_after =
          let P : ℕ → Type 0 = λ p. RefinesWatch (record r { position = p }) h s (after_pump h s w) in
          subst P (ap (λ p. position_after s p (first_in w.scope (changes_after h s w.position))) k.position ∙ ap (position_after s r.position) same_place)
          (by_gone_after (is_gone s w.position) refl)

-- a watch that was just started
pub starts : (r : Watch) (h : List PlainChange) (s : Plain) → IsFresh s r → RefinesWatch r h s (watch_data r)
unfolding due
starts r h s (none, reached, runs) =
    let len : length (map stored_tree r.first) ≡ length r.first = length-map r.first stored_tree in
    record {
      scope = refl;
      position = refl;
      first = refl;
      begun = λ _. (refl, refl);
      ended = λ le. omega arith;
      rest = rw none refl;
      within = omega arith;
      known = reached;
      stood = reached;
      runs = runs;
    }

-- the trees of a list are those of its objects
pub listed_second : {X : Type 0} (key : X → Key) (object : X → StoredObject) (ls : List X)
    → map (λ l. stored_tree (object l)) ls ≡ map (λ e. e.1) (trees (map (λ l. (key l, object l)) ls))
listed_second key object [] = refl
listed_second key object (l ∷ ls) = ap (λ ts. stored_tree (object l) ∷ ts) (listed_second key object ls)

-- whether a watch can start from a revision that is not 0, if that is above the current one, or is not
abbrev startable_if : Plain → ℕ → Bool → Result (Unit {0}) WatchFault
startable_if s revision above = if above then Err TooLarge else if is_gone s revision then Err TooOld else Ok tt

not_above : (s : Plain) (revision : ℕ) (above : Bool) → nat_lt s.revision revision ≡ above → startable_if s revision above ≡ Ok tt → revision ≤ s.revision
not_above s revision true is h = absurd (cc h)
not_above s revision false is h = ltb-false s.revision revision is

-- a watch starts from no revision above the current one
pub reached : (s : Plain) (revision : ℕ) → startable s revision ≡ Ok tt → revision ≤ s.revision
unfolding startable
reached s zero is = omega arith
reached s (suc n) is =
    let tested : startable_if s (suc n) (nat_lt s.revision (suc n)) ≡ Ok tt = rw (eqb-suc-zero n) at is in
    not_above s (suc n) (nat_lt s.revision (suc n)) refl tested
