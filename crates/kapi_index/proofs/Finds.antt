-- The first of some entries in the order of their keys.
use Rattle.std.proofs.Common.{◌≡◌, ℕ, Bool, true, false, not, ◌&&◌, ◌||◌, if◌then◌else◌, cond, List, [], ◌∷◌, Option, Some, None, refl, sym, ap, subst, ◌∙◌}
use Rattle.std.proofs.Common.{Bor}
use Rattle.std.specs.Option.{MatchOption, option_copied}
use Rattle.std.specs.BTreeMap.{is_at}
use Rattle.std.specs.BTreeMap.Range.{is_from_start}
use Rattle.std.specs.Cmp.{IsTotalOrder}
use Rattle.std.specs.Cmp.Lexicographic.{nat_list_cmp_total}
use Rattle.std.specs.List.{AllByRecursion, filter, find, fold, list_any}
use Rattle.std.specs.List.Sorted.{IsStrictlySortedBy}
use Rattle.std.specs.Map.{keys_of, lookup}
use Rattle.std.specs.Ordering.{is_eq, is_le, is_lt, match_ordering, ordering_reverse}
use Rattle.std.specs.Str.{bytes_eq}
use Rattle.std.specs.declared.cmp.Ordering.{Ordering}
use Rattle.std.specs.declared.cmp.Ordering.TheVariants.{Less, Equal, Greater}
use Rattle.std.specs.declared.collections.Bound.{Bound as Start}
use Rattle.std.specs.declared.collections.Bound.TheVariants.{Included, Excluded, Unbounded}
use Rattle.std.proofs.lemmas.Map.Text.{is_eq-slice_cmp}
use Rattle.std.proofs.lemmas.Slice.Eq.{bytes_eq-Decides}
use Rattle.std.proofs.lemmas.Bool.{and_parts}
use Rattle.kapi_policy.specs.Objects.{name_cmp}
use Rattle.kapi_text.proofs.Booleans.{and_or, cond_not, cond_or, or_assoc, or_false}
use Rattle.kapi_index.specs.Listed.{is_listed}
use Rattle.kapi_index.specs.Scopes.{least}

pub name_total : IsTotalOrder name_cmp
name_total = nat_list_cmp_total

pub at_itself : (k : List ℕ) → is_eq (name_cmp k k) ≡ true
at_itself k = is_eq-slice_cmp k k ∙ (bytes_eq-Decides k k).1 refl

pub above : (a b : List ℕ) → name_cmp a b ≡ Less → name_cmp b a ≡ Greater
above a b h = name_total.antisymm b a ∙ ap ordering_reverse h

-- no name is below itself
pub not_below_itself : (k : List ℕ) → is_lt (name_cmp k k) ≡ false
not_below_itself k = by_order (name_cmp k k) (at_itself k)
  where
    by_order : (r : Ordering) → is_eq r ≡ true → is_lt r ≡ false
    by_order Less h = absurd cc
    by_order Equal h = refl
    by_order Greater h = refl

-- a key from a start on stays so upwards
pub from_upward : (start : Start (List ℕ)) (a b : List ℕ) → is_from_start name_cmp start a ≡ true → name_cmp a b ≡ Less → is_from_start name_cmp start b ≡ true
from_upward (Included x) a b h below = by_order (name_cmp x a) refl h
  where
    by_order : (r : Ordering) → name_cmp x a ≡ r → is_le r ≡ true → is_le (name_cmp x b) ≡ true
    by_order Less is k = rw (name_total.trans x a b is below) refl
    by_order Equal is k = rw (name_total.congr x a b is, below) refl
    by_order Greater is k = absurd cc
from_upward (Excluded x) a b h below = by_order (name_cmp x a) refl h
  where
    by_order : (r : Ordering) → name_cmp x a ≡ r → is_lt r ≡ true → is_lt (name_cmp x b) ≡ true
    by_order Less is k = rw (name_total.trans x a b is below) refl
    by_order Equal is k = absurd cc
    by_order Greater is k = absurd cc
from_upward Unbounded a b h below = refl

-- ---- the first key

module _ {X : Type 0} where
  -- the key of the first entry that passes
  abbrev pub first_key : (List ℕ × X → Bool) → List (List ℕ × X) → Option (List ℕ)
  first_key t [] = None
  first_key t (e ∷ es) = if t e then Some e.0 else first_key t es

  pub first_same : (t u : List ℕ × X → Bool) → ((e : List ℕ × X) → t e ≡ u e) → (es : List (List ℕ × X)) → first_key t es ≡ first_key u es
  first_same t u same [] = refl
  first_same t u same (e ∷ es) = rw (same e, first_same t u same es) refl

  pub find_first : (p : List ℕ → Bool) (q : List ℕ × X → Bool) (es : List (List ℕ × X)) → find p (keys_of (filter q es)) ≡ first_key (λ e. p e.0 && q e) es
  find_first p q [] = refl
  find_first p q (e ∷ es) = by_case (p e.0) (q e) refl refl (find_first p q es)
    where
      by_case : (a b : Bool) → p e.0 ≡ a → q e ≡ b → find p (keys_of (filter q es)) ≡ first_key (λ e. p e.0 && q e) es
          → find p (keys_of (filter q (e ∷ es))) ≡ first_key (λ e. p e.0 && q e) (e ∷ es)
      by_case true true h k more = rw (k, h) refl
      by_case true false h k more = rw (k, h) more
      by_case false true h k more = rw (k, h) more
      by_case false false h k more = rw (k, h) more

  -- a first key is one of the keys
  pub first_among : (P : List ℕ → Type 0) (t : List ℕ × X → Bool) (es : List (List ℕ × X)) (k : List ℕ)
      → AllByRecursion P (keys_of es) → first_key t es ≡ Some k → P k
  first_among P t [] k all h = absurd (let none : None ≡ Some k = h in cc none)
  first_among P t (e ∷ es) k all h = by_case (t e) refl (first_among P t es k all.1)
    where
      by_case : (b : Bool) → t e ≡ b → (first_key t es ≡ Some k → P k) → P k
      by_case true is more = let same : Some e.0 ≡ Some k = rw is at h in let at : e.0 ≡ k = cc same in rw (sym at) all.0
      by_case false is more = more (rw is at h)

least_left : (a : List ℕ) (o : Option (List ℕ)) → ((k : List ℕ) → o ≡ Some k → name_cmp a k ≡ Less) → least (Some a) o ≡ Some a
least_left a None below = refl
least_left a (Some k) below = rw (below k refl) refl

least_right : (a : List ℕ) (o : Option (List ℕ)) → ((k : List ℕ) → o ≡ Some k → name_cmp a k ≡ Less) → least o (Some a) ≡ Some a
least_right a None below = refl
least_right a (Some k) below = rw (above a k (below k refl)) refl

least_same : (a : List ℕ) → least (Some a) (Some a) ≡ Some a
least_same a = by_order (name_cmp a a)
  where
    by_order : (r : Ordering) → match_ordering r (Some a) (Some a) (Some a) ≡ Some a
    by_order Less = refl
    by_order Equal = refl
    by_order Greater = refl

module _ {X : Type 0} where
  -- the least of two first keys is that of the entries that pass either test
  pub least_first : (p q : List ℕ × X → Bool) (es : List (List ℕ × X)) → IsStrictlySortedBy name_cmp (keys_of es)
      → least (first_key p es) (first_key q es) ≡ first_key (λ e. p e || q e) es
  unfolding IsStrictlySortedBy
  least_first p q [] sorted = refl
  least_first p q (e ∷ es) sorted = by_case (p e) (q e) refl refl (least_first p q es sorted.1)
    where
      by_case : (a b : Bool) → p e ≡ a → q e ≡ b → least (first_key p es) (first_key q es) ≡ first_key (λ e. p e || q e) es
          → least (first_key p (e ∷ es)) (first_key q (e ∷ es)) ≡ first_key (λ e. p e || q e) (e ∷ es)
      by_case true true h k more = rw (h, k) (least_same e.0)
      by_case true false h k more = rw (h, k) (least_left e.0 (first_key q es) (λ n is. first_among (λ y. name_cmp e.0 y ≡ Less) q es n sorted.0 is))
      by_case false true h k more = rw (h, k) (least_right e.0 (first_key p es) (λ n is. first_among (λ y. name_cmp e.0 y ≡ Less) p es n sorted.0 is))
      by_case false false h k more = rw (h, k) more

  -- the least of the first keys of several tests
  pub grouped : {G : Type 0} (names : G → Option (List ℕ)) (p : List ℕ → Bool) (has : G → List ℕ × X → Bool) (es : List (List ℕ × X))
      → IsStrictlySortedBy name_cmp (keys_of es) → ((g : G) → names g ≡ first_key (λ e. p e.0 && has g e) es)
      → (t : List ℕ × X → Bool) (gs : List G)
      → fold (λ found g. least found (names g)) (first_key (λ e. p e.0 && t e) es) gs ≡ first_key (λ e. p e.0 && (t e || list_any (λ g. has g e) gs)) es
  grouped names p has es sorted are t [] = first_same _ _ (λ e. ap (λ b. p e.0 && b) (sym (or_false (t e)))) es
  grouped names p has es sorted are t (g ∷ gs) =
      ap (λ first. fold (λ found g. least found (names g)) first gs)
      (ap (least (first_key (λ e. p e.0 && t e) es)) (are g)
      ∙ least_first (λ e. p e.0 && t e) (λ e. p e.0 && has g e) es sorted
      ∙ first_same _ _ (λ e. and_or (p e.0) (t e) (has g e)) es)
      ∙ grouped names p has es sorted are (λ e. t e || has g e) gs
      ∙ first_same _ _ (λ e. ap (λ b. p e.0 && b) (or_assoc (t e) (has g e) (list_any (λ g. has g e) gs))) es

  -- ---- one step of a walk

  -- the first entry from a start on that passes, and those behind it
  pub record Step (start : Start (List ℕ)) (q : List ℕ × X → Bool) (es : List (List ℕ × X)) (k : List ℕ) : Type 0 where
    pub value : X
    pub found : lookup (is_at (name_cmp k)) es ≡ Some value
    pub passes : q (k, value) ≡ true
    pub split : filter (λ e. is_from_start name_cmp start e.0 && q e) es ≡ (k, value) ∷ filter (λ e. is_from_start name_cmp (Excluded k) e.0 && q e) es

  from_above : (start : Start (List ℕ)) (q : List ℕ × X → Bool) (k : List ℕ) (es : List (List ℕ × X))
      → AllByRecursion (λ y. name_cmp k y ≡ Less) (keys_of es) → is_from_start name_cmp start k ≡ true
      → filter (λ e. is_from_start name_cmp start e.0 && q e) es ≡ filter (λ e. is_from_start name_cmp (Excluded k) e.0 && q e) es
  from_above start q k [] all h = refl
  from_above start q k (e ∷ es) all h = rw (from_upward start k e.0 h all.0, all.0, from_above start q k es all.1 h) refl

  pub step : (start : Start (List ℕ)) (q : List ℕ × X → Bool) (es : List (List ℕ × X)) (k : List ℕ) → IsStrictlySortedBy name_cmp (keys_of es)
      → first_key (λ e. is_from_start name_cmp start e.0 && q e) es ≡ Some k → Step start q es k
  unfolding IsStrictlySortedBy
  step start q [] k sorted h = absurd (let none : None ≡ Some k = h in cc none)
  step start q (e ∷ es) k sorted h = by_case (is_from_start name_cmp start e.0 && q e) refl (step start q es k sorted.1)
    where
      here : is_from_start name_cmp start e.0 ≡ true → q e ≡ true → (e.0 ≡ k) → Step start q (e ∷ es) k
      here from passes same = subst (λ n. Step start q (e ∷ es) n) same (record {
        value = e.1;
        found = rw (at_itself e.0) refl;
        passes = passes;
        split = rw (from, passes, not_below_itself e.0) (ap (λ l. e ∷ l) (from_above start q e.0 es sorted.0 from));
      })

      there : (is_from_start name_cmp start e.0 && q e) ≡ false → Step start q es k → name_cmp k e.0 ≡ Greater → Step start q (e ∷ es) k
      there fails s behind = record {
        value = s.value;
        found = rw behind s.found;
        passes = s.passes;
        split = rw (fails, behind) s.split;
      }

      by_case : (b : Bool) → (is_from_start name_cmp start e.0 && q e) ≡ b
          → (first_key (λ e. is_from_start name_cmp start e.0 && q e) es ≡ Some k → Step start q es k) → Step start q (e ∷ es) k
      by_case true is more =
          let same : Some e.0 ≡ Some k = rw is at h in
          here (and_parts _ _ is).0 (and_parts _ _ is).1 (cc same)
      by_case false is more =
          let rest : first_key (λ e. is_from_start name_cmp start e.0 && q e) es ≡ Some k = rw is at h in
          there is (more rest) (above e.0 k (first_among (λ y. name_cmp e.0 y ≡ Less) (λ e. is_from_start name_cmp start e.0 && q e) es k sorted.0 rest))

  pub none_left : (t : List ℕ × X → Bool) (es : List (List ℕ × X)) → first_key t es ≡ None → filter t es ≡ []
  none_left t [] h = refl
  none_left t (e ∷ es) h = by_case (t e) refl (none_left t es)
    where
      by_case : (b : Bool) → t e ≡ b → (first_key t es ≡ None → filter t es ≡ []) → filter t (e ∷ es) ≡ []
      by_case true is more = absurd (let some : Some e.0 ≡ None = rw is at h in cc some)
      by_case false is more = rw is (more (rw is at h))

-- the first of a range that is open at its end
pub taken : (p : List ℕ → Bool) (xs : List (List ℕ)) (r : Option (Bor (List ℕ))) (t : List (List ℕ))
    → MatchOption r ((filter (λ k. p k && true) xs ≡ []) × (t ≡ [])) (λ x. filter (λ k. p k && true) xs ≡ x.now ∷ t) → option_copied r ≡ find p xs
taken p [] None t h = refl
taken p [] (Some x) t h = absurd (cc h)
taken p (k ∷ xs) r t h = by_case (p k) refl (taken p xs r t)
  where
    head : (r : Option (Bor (List ℕ))) → MatchOption r ((k ∷ filter (λ k. p k && true) xs ≡ []) × (t ≡ [])) (λ x. k ∷ filter (λ k. p k && true) xs ≡ x.now ∷ t) → option_copied r ≡ Some k
    head None h = absurd (cc h.0)
    head (Some x) h = let same : k ≡ x.now = cc h in rw same refl

    by_case : (b : Bool) → p k ≡ b
        → (MatchOption r ((filter (λ k. p k && true) xs ≡ []) × (t ≡ [])) (λ x. filter (λ k. p k && true) xs ≡ x.now ∷ t) → option_copied r ≡ find p xs)
        → option_copied r ≡ find p (k ∷ xs)
    by_case true is more = rw is (head r (rw is at h))
    by_case false is more = rw is (more (rw is at h))

-- ---- one name put into a list, or taken out

pub put_listed : (name : List ℕ) (seen old new : List (List ℕ)) → seen ≡ old
    → ((q : List ℕ) → is_listed q new ≡ cond (is_at (name_cmp name) q) true (is_listed q seen)) → (n : List ℕ) → is_listed n new ≡ (bytes_eq name n || is_listed n old)
put_listed name seen old new same h n =
    h n ∙ cond_or (is_at (name_cmp name) n) (is_listed n seen) ∙ ap (λ b. b || is_listed n seen) (is_eq-slice_cmp name n) ∙ ap (λ l. bytes_eq name n || is_listed n l) same

pub gone_listed : (name : List ℕ) (seen old new : List (List ℕ)) → seen ≡ old
    → ((q : List ℕ) → is_listed q new ≡ cond (is_at (name_cmp name) q) false (is_listed q seen)) → (n : List ℕ) → is_listed n new ≡ (is_listed n old && not (bytes_eq name n))
gone_listed name seen old new same h n =
    h n ∙ cond_not (is_at (name_cmp name) n) (is_listed n seen) ∙ ap (λ b. is_listed n seen && not b) (is_eq-slice_cmp name n) ∙ ap (λ l. is_listed n l && not (bytes_eq name n)) same

pub found_in_view : (p : List ℕ → Bool) (seen now : List (List ℕ)) (r : Option (Bor (List ℕ))) (t shown : List (List ℕ)) → seen ≡ now
    → shown ≡ filter (λ k. p k && true) seen
    → MatchOption r ((shown ≡ []) × (t ≡ [])) (λ x. shown ≡ x.now ∷ t) → option_copied r ≡ find p now
found_in_view p seen now r t shown same between h = taken p seen r t (subst (λ l. MatchOption r ((l ≡ []) × (t ≡ [])) (λ x. l ≡ x.now ∷ t)) between h) ∙ ap (find p) same
