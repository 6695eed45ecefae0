-- What the steps of a level leave.
use Rattle.std.proofs.Common.{◌≡◌, ◌⊎◌, ◌<◌, ◌+◌, ◌++◌, ℕ, suc, zero, List, [], ◌∷◌, length, set, true, false, cond, Option, Some, None, refl, sym, ap, subst, ◌∙◌, inl, inr, ⊎_elim, arith}
use Rattle.std.specs.List.{fold}
use Rattle.std.proofs.lemmas.List.{get_or-set_same, get_or-set_other, length-set, length_push}
use Rattle.std.proofs.lemmas.Option.{none-some, same_Some}
use Rattle.std.proofs.lemmas.Bool.{cases_eq}
use Rattle.kapi_paths.specs.declared.search.Discovered.{Discovered}
use Rattle.kapi_paths.specs.Chains.{Has, row}
use Rattle.kapi_paths.specs.Levels.{IsFoundAt, State, found_at, is_open, passed, vacant, visited}

-- ---- lists

pub has_left : {X : Type 0} (xs ys : List X) (x : X) → Has xs x → Has (xs ++ ys) x
has_left [] ys x h = absurd h
has_left (a ∷ xs) ys x (inl e) = inl e
has_left (a ∷ xs) ys x (inr h) = inr (has_left xs ys x h)

pub has_last : {X : Type 0} (xs : List X) (x : X) → Has (xs ++ x ∷ []) x
has_last [] x = inl refl
has_last (a ∷ xs) x = inr (has_last xs x)

pub has_push : {X : Type 0} (xs : List X) (y x : X) → Has (xs ++ y ∷ []) x → Has xs x ⊎ (y ≡ x)
has_push [] y x (inl e) = inr e
has_push [] y x (inr h) = absurd h
has_push (a ∷ xs) y x (inl e) = inl (inl e)
has_push (a ∷ xs) y x (inr h) = elim (has_push xs y x h) as (λ _. (Has (a ∷ xs) x ⊎ (y ≡ x))) [ inl h ↦ inl (inr h) | inr e ↦ inr e ]

-- ---- places of the table

-- an open place: it is within the table, and nothing was found there
pub open_parts : (table : List (Option Discovered)) (n : ℕ) → is_open table n ≡ true → (n < length table) × (found_at table n ≡ None)
open_parts [] n h = cc
open_parts (None ∷ table) zero h = (omega arith, refl)
open_parts (Some f ∷ table) zero h = cc
open_parts (x ∷ table) (suc n) h = let p = open_parts table n h in (omega (arith, p.0), p.1)

-- a place that is not open and within the table has what was found
pub found_or_open : (table : List (Option Discovered)) (n : ℕ) → n < length table → is_open table n ≡ false → (f : Discovered) × (found_at table n ≡ Some f)
found_or_open [] n h e = absurd (omega arith)
found_or_open (None ∷ table) zero h e = cc
found_or_open (Some f ∷ table) zero h e = (f, refl)
found_or_open (x ∷ table) (suc n) h e = found_or_open table n (omega arith) e

pub vacant_set : (table : List (Option Discovered)) (n : ℕ) (f : Discovered) → is_open table n ≡ true → vacant (set table n (Some f)) + 1 ≡ vacant table
vacant_set [] n f h = cc
vacant_set (None ∷ table) zero f h = refl
vacant_set (Some g ∷ table) zero f h = cc
vacant_set (None ∷ table) (suc n) f h = ap (λ k. k + 1) (vacant_set table n f h)
vacant_set (Some g ∷ table) (suc n) f h = vacant_set table n f h

-- ---- steps of a level

-- by what the table has a node that it had not
pub record IsNew (graph : List (List ℕ)) (steps : ℕ) (level : List ℕ) (next : List ℕ) (n : ℕ) (f : Discovered) : Type 0 where
  pub steps_are : f.steps ≡ steps
  pub source : Has level f.from
  pub leads : Has (row graph f.from) n
  pub listed : Has next n

-- what was found stays, and what came was found by a step from a node of the level
pub record Grew (graph : List (List ℕ)) (steps : ℕ) (level : List ℕ) (s t : State) : Type 0 where
  pub size : length t.table ≡ length s.table
  pub kept : (n : ℕ) (f : Discovered) → found_at s.table n ≡ Some f → found_at t.table n ≡ Some f
  pub came : (n : ℕ) (f : Discovered) → found_at t.table n ≡ Some f → (found_at s.table n ≡ Some f) ⊎ IsNew graph steps level t.next n f
  pub listed : (n : ℕ) → Has t.next n → Has s.next n ⊎ IsFoundAt t.table n steps
  pub more : (n : ℕ) → Has s.next n → Has t.next n
  pub count : vacant t.table + length t.next ≡ vacant s.table + length s.next

pub grew_none : (graph : List (List ℕ)) (steps : ℕ) (level : List ℕ) (s : State) → Grew graph steps level s s
grew_none graph steps level s = record {
  size = refl;
  kept = λ n f h. h;
  came = λ n f h. inl h;
  listed = λ n h. inl h;
  more = λ n h. h;
  count = refl;
}

pub grew_then : {graph : List (List ℕ)} {steps : ℕ} {level : List ℕ} {s t u : State} → Grew graph steps level s t → Grew graph steps level t u → Grew graph steps level s u
grew_then {graph} {steps} {level} {s} {t} {u} a b = record {
  size = b.size ∙ a.size;
  kept = λ n f h. b.kept n f (a.kept n f h);
  came = λ n f h. ⊎_elim
      (λ k. ⊎_elim (λ i. inl i) (λ i. inr (record { steps_are = i.steps_are; source = i.source; leads = i.leads; listed = b.more n i.listed })) (a.came n f k))
      (λ k. inr k) (b.came n f h);
  listed = λ n h. ⊎_elim (λ k. ⊎_elim (λ i. inl i) (λ i. inr (i.0, b.kept n i.0 i.1, i.2)) (a.listed n k)) (λ k. inr k) (b.listed n h);
  more = λ n h. b.more n (a.more n h);
  count = b.count ∙ a.count;
}

-- after a step to an open node
grew_open : (graph : List (List ℕ)) (level : List ℕ) (f : Discovered) (s : State) (n : ℕ) → Has level f.from → Has (row graph f.from) n → is_open s.table n ≡ true
    → Grew graph f.steps level s (record { table = set s.table n (Some f); next = s.next ++ n ∷ [] })
grew_open graph level f s n at_level leads h =
    let p = open_parts s.table n h in
    let same : found_at (set s.table n (Some f)) n ≡ Some f = get_or-set_same s.table n (Some f) None p.0 in
    record {
      size = length-set s.table n (Some f);
      kept = λ m g k. ⊎_elim
          (λ e. absurd (none-some g (sym p.1 ∙ subst (λ i. found_at s.table i ≡ Some g) e k)))
          (λ e. get_or-set_other s.table n m (Some f) None e ∙ k) (cases_eq m n);
      came = λ m g k. ⊎_elim
          (λ e. let e2 : f ≡ g = same_Some f g (sym same ∙ subst (λ i. found_at (set s.table n (Some f)) i ≡ Some g) e k) in
          inr (subst (λ (i : ℕ × Discovered). IsNew graph f.steps level (s.next ++ n ∷ []) i.0 i.1) (ap (λ (i : ℕ). (i, f)) (sym e) ∙ ap (λ (i : Discovered). (m, i)) e2)
          (record { steps_are = refl; source = at_level; leads = leads; listed = has_last s.next n })))
          (λ e. inl (sym (get_or-set_other s.table n m (Some f) None e) ∙ k)) (cases_eq m n);
      listed = λ m k. ⊎_elim (λ i. inl i) (λ e. inr (subst (λ i. IsFoundAt (set s.table n (Some f)) i f.steps) e (f, same, refl))) (has_push s.next n m k);
      more = λ m k. has_left s.next (n ∷ []) m k;
      count = omega (arith, vacant_set s.table n f h, length_push s.next n);
    }

pub grew_visited : (graph : List (List ℕ)) (level : List ℕ) (f : Discovered) (s : State) (n : ℕ) → Has level f.from → Has (row graph f.from) n → Grew graph f.steps level s (visited f s n)
unfolding visited
grew_visited graph level f s n at_level leads =
    elim (is_open s.table n) as (λ b. is_open s.table n ≡ b → Grew graph f.steps level s (cond b (record { table = set s.table n (Some f); next = s.next ++ n ∷ [] }) s)) [
      | true ↦ λ h. grew_open graph level f s n at_level leads h
      | false ↦ λ h. grew_none graph f.steps level s
    ] refl

pub visited_finds : (f : Discovered) (s : State) (n : ℕ) → n < length s.table → (g : Discovered) × (found_at (visited f s n).table n ≡ Some g)
unfolding visited
visited_finds f s n inside =
    elim (is_open s.table n) as (λ b. is_open s.table n ≡ b → (g : Discovered) × (found_at (cond b (record { table = set s.table n (Some f); next = s.next ++ n ∷ [] }) s).table n ≡ Some g)) [
      | true ↦ λ h. (f, get_or-set_same s.table n (Some f) None inside)
      | false ↦ λ h. found_or_open s.table n inside h
    ] refl

-- ---- rows and levels

pub row_grew : (graph : List (List ℕ)) (level : List ℕ) (f : Discovered) (ns : List ℕ) (s : State) → Has level f.from → ((n : ℕ) → Has ns n → Has (row graph f.from) n)
    → Grew graph f.steps level s (fold (visited f) s ns)
row_grew graph level f [] s h all = grew_none graph f.steps level s
row_grew graph level f (n ∷ ns) s h all =
    grew_then (grew_visited graph level f s n h (all n (inl refl))) (row_grew graph level f ns (visited f s n) h (λ m k. all m (inr k)))

pub row_finds : (graph : List (List ℕ)) (level : List ℕ) (f : Discovered) (ns : List ℕ) (s : State) → Has level f.from → ((n : ℕ) → Has ns n → Has (row graph f.from) n)
    → (n : ℕ) → Has ns n → n < length s.table → (g : Discovered) × (found_at (fold (visited f) s ns).table n ≡ Some g)
row_finds graph level f [] s h all n k inside = absurd k
row_finds graph level f (m ∷ ns) s h all n (inl e) inside =
    let found = visited_finds f s n inside in
    (found.0, (row_grew graph level f ns (visited f s m) h (λ i k. all i (inr k))).kept n found.0 (subst (λ i. found_at (visited f s i).table n ≡ Some found.0) (sym e) found.1))
row_finds graph level f (m ∷ ns) s h all n (inr k) inside =
    let size : length (visited f s m).table ≡ length s.table = (grew_visited graph level f s m h (all m (inl refl))).size in
    row_finds graph level f ns (visited f s m) h (λ i j. all i (inr j)) n k (omega arith)

abbrev pub by : ℕ → ℕ → Discovered
by steps n = record { steps = steps; from = n }

pub level_grew : (graph : List (List ℕ)) (steps : ℕ) (level ns : List ℕ) (s : State) → ((n : ℕ) → Has ns n → Has level n) → Grew graph steps level s (fold (passed graph steps) s ns)
level_grew graph steps level [] s all = grew_none graph steps level s
level_grew graph steps level (n ∷ ns) s all =
    grew_then (row_grew graph level (by steps n) (row graph n) s (all n (inl refl)) (λ m k. k)) (level_grew graph steps level ns (passed graph steps s n) (λ m k. all m (inr k)))

pub level_finds : (graph : List (List ℕ)) (steps : ℕ) (level ns : List ℕ) (s : State) → ((n : ℕ) → Has ns n → Has level n)
    → (n m : ℕ) → Has ns n → Has (row graph n) m → m < length s.table → (g : Discovered) × (found_at (fold (passed graph steps) s ns).table m ≡ Some g)
level_finds graph steps level [] s all n m k leads inside = absurd k
level_finds graph steps level (a ∷ ns) s all n m (inl e) leads inside =
    let found = row_finds graph level (by steps n) (row graph n) s (all n (inl e)) (λ i k. k) m leads inside in
    (found.0, (level_grew graph steps level ns (passed graph steps s a) (λ i k. all i (inr k))).kept m found.0 (subst (λ i. found_at (passed graph steps s i).table m ≡ Some found.0) (sym e) found.1))
level_finds graph steps level (a ∷ ns) s all n m (inr k) leads inside =
    let size : length (passed graph steps s a).table ≡ length s.table = (row_grew graph level (by steps a) (row graph a) s (all a (inl refl)) (λ i j. j)).size in
    level_finds graph steps level ns (passed graph steps s a) (λ i j. all i (inr j)) n m k leads (omega arith)
