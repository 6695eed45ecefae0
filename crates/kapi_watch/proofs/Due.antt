-- What is due to a watch, from one event to the next.
use Rattle.std.proofs.Common.{◌≡◌, ℕ, ◌+◌, ◌-◌, ◌≤◌, ◌<◌, Bool, true, false, List, [], ◌∷◌, Option, None, Some, option_map, is_some, map, length, drop, slice_get, get_or, get_or-drop, drop-drop, length-drop, refl, sym, ap, ◌∙◌, arith, ⊎_elim}
use Rattle.std.specs.Prelude.{nat_lt}
use Rattle.std.specs.List.{filter, filter_map, cons_option, position_or_len}
use Rattle.std.proofs.lemmas.Bool.{lt-ltb, le-ltb, cases_lt}
use Rattle.std.proofs.lemmas.List.{drop_all, drop_more}
use Rattle.std.proofs.lemmas.List.Sums.{passes_at_first}
use Rattle.std.proofs.lemmas.Option.{slice_get_within, slice_get_cases, get_or_from_slice_get}
use Rattle.kapi_store.specs.Changes.{Follow}

module _ {X : Type 0} where
  -- what is left of a list begins with the item at that index
  pub drop_front : (xs : List X) (i : ℕ) (x : X) → slice_get xs i ≡ Some x → drop i xs ≡ x ∷ drop (i + 1) xs
  drop_front xs i x h =
      drop_more xs i x (slice_get_within xs i x h) ∙ ap (λ y. y ∷ drop (i + 1) xs) (get_or_from_slice_get xs i x x h)

  -- nothing is left of a list at an index that has no item
  pub drop_none : (xs : List X) (i : ℕ) → slice_get xs i ≡ None → drop i xs ≡ []
  drop_none xs i h = ⊎_elim (λ some. let here = some.2 in cc) (λ past. drop_all i xs past.0) (slice_get_cases xs i).1

module _ {X Y : Type 0} (f : X → Option Y) where
  -- the first event of items is that of the first item, if it has one
  pub first_found : {Z : Type 0} (v : Z → Y) (found : Option Z) (x : X) (xs : List X) → option_map v found ≡ f x → is_some found ≡ true
      → option_map v found ≡ slice_get (filter_map f (x ∷ xs)) 0
  first_found v (Some z) x xs e is = rw (sym e) refl
  first_found v None x xs e is = cc

  -- if the first item has no event, the first event is that of the others
  pub first_passed : {Z : Type 0} (v : Z → Y) (found : Option Z) (x : X) (xs : List X) → option_map v found ≡ f x → is_some found ≡ false
      → slice_get (filter_map f xs) 0 ≡ slice_get (filter_map f (x ∷ xs)) 0
  first_passed v None x xs e is = rw (sym e) refl
  first_passed v (Some z) x xs e is = cc

module _ {X : Type 0} (p : X → Bool) where
  -- an item that passes is the first place from its index on to do so
  pub place_here : (xs : List X) (i : ℕ) (x : X) → slice_get xs i ≡ Some x → p x ≡ true → position_or_len p (drop i xs) ≡ 0
  place_here xs i x at is = rw (drop_front xs i x at, is) refl

  -- the first place from the index of an item on that does not pass lies behind it
  pub place_behind : (xs : List X) (i : ℕ) (x : X) → slice_get xs i ≡ Some x → p x ≡ false
      → position_or_len p (drop i xs) ≡ 1 + position_or_len p (drop (i + 1) xs)
  place_behind xs i x at is = rw (drop_front xs i x at, is) refl

  -- the item at the first place from an index on that passes does pass
  pub next_passes : (xs : List X) (from index : ℕ) (x : X) → index ≡ from + position_or_len p (drop from xs) → slice_get xs index ≡ Some x → p x ≡ true
  next_passes xs from index x is at =
      let n = position_or_len p (drop from xs) in
      let here : index < length xs = slice_get_within xs index x at in
      let size : length (drop from xs) ≡ length xs - from = length-drop from xs in
      let within : n < length (drop from xs) = omega arith in
      let item = get_or-drop from xs n x ∙ ap (λ i. get_or xs i x) (sym is) ∙ get_or_from_slice_get xs index x x at in
      ap p (sym item) ∙ passes_at_first p (drop from xs) x within

module _ {X Y Z : Type 0} (g : X → Z) (f : Z → Option Y) (p : X → Bool) (none : (x : X) → p x ≡ false → f (g x) ≡ None) where
  first_cons : (x : X) (xs : List X) (b : Bool) → p x ≡ b → filter_map f (map g (drop (position_or_len p xs) xs)) ≡ filter_map f (map g xs)
      → filter_map f (map g (drop (position_or_len p (x ∷ xs)) (x ∷ xs))) ≡ filter_map f (map g (x ∷ xs))
  first_cons x xs true is rest = rw is refl
  first_cons x xs false is rest =
      rw (is, none x is) (ap (λ l. filter_map f (map g l)) (sym (drop-drop (position_or_len p xs) 1 (x ∷ xs))) ∙ rest)

  -- the items before the first that passes have no event
  passed_first : (xs : List X) → filter_map f (map g (drop (position_or_len p xs) xs)) ≡ filter_map f (map g xs)
  passed_first [] = refl
  passed_first (x ∷ xs) = first_cons x xs (p x) refl (passed_first xs)

  -- the items from an index on and before the next that passes have no event
  pub passed_next : (xs : List X) (from index : ℕ) → index ≡ from + position_or_len p (drop from xs)
      → filter_map f (map g (drop index xs)) ≡ filter_map f (map g (drop from xs))
  passed_next xs from index is =
      ap (λ i. filter_map f (map g (drop i xs))) is
      ∙ ap (λ l. filter_map f (map g l)) (sym (drop-drop (position_or_len p (drop from xs)) from xs))
      ∙ passed_first (drop from xs)

module _ {X Y : Type 0} (number : X → ℕ) (f : X → Option (ℕ × Y)) (own : (x : X) (e : ℕ × Y) → f x ≡ Some e → e.0 ≡ number x) where
  -- the items past a limit
  abbrev pub past : ℕ → List X → List X
  past limit xs = filter (λ x. nat_lt limit (number x)) xs

  -- all items are past a limit that is not past the start
  pub past_all : (limit before : ℕ) (xs : List X) → limit ≤ before → Follow number before xs → past limit xs ≡ xs
  unfolding Follow
  past_all limit before [] le h = refl
  past_all limit before (x ∷ xs) le h =
      rw (lt-ltb limit (number x) (omega arith)) (ap (λ l. x ∷ l) (past_all limit (before + 1) xs (omega arith) h.1))

  -- no item is past the last
  pub past_none : (limit before : ℕ) (xs : List X) → before + length xs ≤ limit → Follow number before xs → past limit xs ≡ []
  unfolding Follow
  past_none limit before [] le h = refl
  past_none limit before (x ∷ xs) le h =
      rw (le-ltb limit (number x) (omega arith)) (past_none limit (before + 1) xs (omega arith) h.1)

  past_yes : (limit : ℕ) (x : X) (xs : List X) → limit < number x → past limit (x ∷ xs) ≡ x ∷ past limit xs
  past_yes limit x xs lt = rw (lt-ltb limit (number x) lt) refl

  past_no : (limit : ℕ) (x : X) (xs : List X) → number x ≤ limit → past limit (x ∷ xs) ≡ past limit xs
  past_no limit x xs le = rw (le-ltb limit (number x) le) refl

  -- what is behind the first event of the items past a limit
  pub record Behind (limit before : ℕ) (xs : List X) (e : ℕ × Y) (es : List (ℕ × Y)) : Type 0 where
    pub over : before < e.0
    pub ahead : limit < e.0
    pub within : e.0 ≤ before + length xs
    pub rest : filter_map f (past e.0 xs) ≡ es

  -- what is behind the first event stays behind an item more that has none
  behind_more : (limit before : ℕ) (x : X) (xs : List X) (e : ℕ × Y) (es : List (ℕ × Y)) → number x ≡ before + 1
      → Behind limit (before + 1) xs e es → Behind limit before (x ∷ xs) e es
  behind_more limit before x xs e es is b =
      let over : before + 1 < e.0 = b.over in
      let within : e.0 ≤ before + 1 + length xs = b.within in
      record {
        over = omega arith;
        ahead = b.ahead;
        within = omega arith;
        rest = ap (filter_map f) (past_no e.0 x xs (omega arith)) ∙ b.rest;
      }

  -- what is behind the first event is behind the first item, if that has one
  behind_here : (limit before : ℕ) (x : X) (xs : List X) (e : ℕ × Y) (es : List (ℕ × Y)) → limit < number x → Follow number before (x ∷ xs)
      → f x ≡ Some e → filter_map f (past limit xs) ≡ es → Behind limit before (x ∷ xs) e es
  unfolding Follow
  behind_here limit before x xs e es lt h is all =
      let at : e.0 ≡ number x = own x e is in
      let next : number x ≡ before + 1 = h.0 in
      record {
        over = omega arith;
        ahead = omega arith;
        within = omega arith;
        rest = ap (filter_map f) (past_no e.0 x xs (omega arith) ∙ past_all e.0 (before + 1) xs (omega arith) h.1 ∙ sym (past_all limit (before + 1) xs (omega arith) h.1)) ∙ all;
      }

  behind_cons : (limit before : ℕ) (x : X) (xs : List X) (e : ℕ × Y) (es : List (ℕ × Y)) → limit < number x → Follow number before (x ∷ xs)
      → (filter_map f (past limit xs) ≡ e ∷ es → Behind limit (before + 1) xs e es)
      → (o : Option (ℕ × Y)) → f x ≡ o → cons_option o (filter_map f (past limit xs)) ≡ e ∷ es → Behind limit before (x ∷ xs) e es
  unfolding Follow
  behind_cons limit before x xs e es lt h next None is all = behind_more limit before x xs e es h.0 (next all)
  behind_cons limit before x xs e es lt h next (Some y) is all =
      let first : y ≡ e = cc in
      let rest : filter_map f (past limit xs) ≡ es = cc in
      behind_here limit before x xs e es lt h (is ∙ ap Some first) rest

  -- the first event, and the events past it
  pub behind_first : (limit before : ℕ) (xs : List X) (e : ℕ × Y) (es : List (ℕ × Y)) → Follow number before xs → filter_map f (past limit xs) ≡ e ∷ es
      → Behind limit before xs e es
  unfolding Follow
  behind_first limit before [] e es h all = cc
  behind_first limit before (x ∷ xs) e es h all = ⊎_elim
      (λ lt. behind_cons limit before x xs e es lt h (behind_first limit (before + 1) xs e es h.1) (f x) refl (ap (filter_map f) (sym (past_yes limit x xs lt)) ∙ all))
      (λ le. behind_more limit before x xs e es h.0 (behind_first limit (before + 1) xs e es h.1 (ap (filter_map f) (sym (past_no limit x xs le)) ∙ all)))
      (cases_lt limit (number x))
