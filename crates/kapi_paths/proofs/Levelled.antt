-- What a search by levels has found after some levels, and at the end.
use Rattle.std.proofs.Common.{◌≡◌, ◌≤◌, ◌<◌, ◌+◌, ◌-◌, ℕ, suc, zero, Bool, true, false, eqb, List, [], ◌∷◌, length, replicate, Option, Some, None, refl, sym, ap, subst, ◌∙◌, inl, inr, ⊎_elim, arith}
use Rattle.std.specs.List.{fold}
use Rattle.std.proofs.lemmas.List.{get_or-set_same, get_or-set_other, length-set, length-replicate}
use Rattle.std.proofs.lemmas.Option.{none-some, same_Some}
use Rattle.std.proofs.lemmas.Bool.{cases_eq, cases_lt}
use Rattle.std.proofs.lemmas.Bool.Decides.{nat_tests}
use Rattle.kapi_paths.specs.declared.search.Discovered.{Discovered}
use Rattle.kapi_paths.specs.Chains.{Has, IsChain, IsInside, row}
use Rattle.kapi_paths.specs.Levels.{IsFoundAt, IsFoundWithin, IsRight, IsSearched, State, found_at, is_open, passed, started, vacant}
use Rattle.kapi_paths.proofs.Grown.{Grew, by, level_finds, level_grew, vacant_set}

-- all that chains of so many steps reach is found, and the last of it is the next level
pub record Levelled (graph : List (List ℕ)) (start : ℕ) (steps : ℕ) (s : State) : Type 0 where
  pub size : length s.table ≡ length graph
  pub first : IsFoundAt s.table start 0
  pub right : (n : ℕ) (f : Discovered) → found_at s.table n ≡ Some f → IsRight graph start s.table n f
  pub bound : (n : ℕ) (f : Discovered) → found_at s.table n ≡ Some f → f.steps ≤ steps
  pub level : (n : ℕ) (f : Discovered) → found_at s.table n ≡ Some f → f.steps ≡ steps → Has s.next n
  pub there : (n : ℕ) → Has s.next n → IsFoundAt s.table n steps
  pub closed : (n m : ℕ) (f : Discovered) → found_at s.table n ≡ Some f → f.steps < steps → Has (row graph n) m → IsFoundWithin s.table m (f.steps + 1)

-- ---- the start

nothing_yet : (size n : ℕ) → found_at (replicate size None) n ≡ None
nothing_yet zero n = refl
nothing_yet (suc size) zero = refl
nothing_yet (suc size) (suc n) = nothing_yet size n

-- a table with nothing found
abbrev empty : ℕ → List (Option Discovered)
empty size = replicate size None

long : (size start : ℕ) → start < size → start < length (empty size)
long size start h = let e : length (empty size) ≡ size = length-replicate size None in omega (arith, e)

only_start : (size start n : ℕ) (f : Discovered) → start < size → found_at (started size start).table n ≡ Some f → (start ≡ n) × (f.steps ≡ 0)
only_start size start n f inside h = ⊎_elim
    (λ e. (
      sym e,
      ap (λ (i : Discovered). i.steps) (same_Some f (by 0 start)
          (sym h ∙ (ap (λ i. found_at (started size start).table i) e ∙ get_or-set_same (empty size) start (Some (by 0 start)) None (long size start inside)))),
    ))
    (λ e. absurd (none-some f (sym (nothing_yet size n) ∙ (sym (get_or-set_other (empty size) start n (Some (by 0 start)) None e) ∙ h))))
    (cases_eq n start)

pub levelled_start : (graph : List (List ℕ)) (start : ℕ) → start < length graph → Levelled graph start 0 (started (length graph) start)
levelled_start graph start inside =
    let size = length graph in
    let here : found_at (started size start).table start ≡ Some (by 0 start) = get_or-set_same (empty size) start (Some (by 0 start)) None (long size start inside) in
    record {
      size = length-set (empty size) start (Some (by 0 start)) ∙ length-replicate size None;
      first = (by 0 start, here, refl);
      right = λ n f h. let p = only_start size start n f inside h in inl (p.1, p.0);
      bound = λ n f h. let p = (only_start size start n f inside h).1 in omega (arith, p);
      level = λ n f h e. inl (only_start size start n f inside h).0;
      there = λ n h. ⊎_elim (λ e. subst (λ i. IsFoundAt (started size start).table i 0) e (by 0 start, here, refl)) (λ k. absurd k) h;
      closed = λ n m f h below leads. absurd (omega arith);
    }

vacant_none : (size : ℕ) → vacant (replicate size None) ≡ size
vacant_none zero = refl
vacant_none (suc size) = omega (arith, vacant_none size)

opens : (size n : ℕ) → n < size → is_open (replicate size None) n ≡ true
opens zero n h = absurd (omega arith)
opens (suc size) zero h = refl
opens (suc size) (suc n) h = opens size n (omega arith)

pub room_start : (size start : ℕ) → start < size → vacant (started size start).table + length (started size start).next ≤ size
room_start size start h = omega (arith, vacant_set (empty size) start (by 0 start) (opens size start h), vacant_none size)

-- ---- a level

right_kept : (graph : List (List ℕ)) (start : ℕ) (old new : List (Option Discovered)) (n : ℕ) (f : Discovered)
    → ((m : ℕ) (g : Discovered) → found_at old m ≡ Some g → found_at new m ≡ Some g) → IsRight graph start old n f → IsRight graph start new n f
right_kept graph start old new n f kept (inl h) = inl h
right_kept graph start old new n f kept (inr (k, is, leads, (g, here, steps))) = inr (k, is, leads, (g, kept f.from g here, steps))

-- the table and the next level after the level
abbrev pub after : List (List ℕ) → ℕ → State → State
after graph steps s = fold (passed graph (steps + 1)) (record { table = s.table; next = [] }) s.next

pub levelled_more : (graph : List (List ℕ)) (start steps : ℕ) (s : State) → IsInside graph → Levelled graph start steps s → Levelled graph start (steps + 1) (after graph steps s)
levelled_more graph start steps s inside a =
    let g : Grew graph (steps + 1) s.next (record { table = s.table; next = [] }) (after graph steps s) = level_grew graph (steps + 1) s.next s.next (record { table = s.table; next = [] }) (λ n k. k) in
    let bound : (n : ℕ) (f : Discovered) → found_at (after graph steps s).table n ≡ Some f → f.steps ≤ steps + 1 =
    λ n f h. ⊎_elim (λ k. let b = a.bound n f k in omega (arith, b)) (λ i. let e = i.steps_are in omega (arith, e)) (g.came n f h) in
    record {
      size = g.size ∙ a.size;
      first = (a.first.0, g.kept start a.first.0 a.first.1, a.first.2);
      right = λ n f h. ⊎_elim
          (λ k. right_kept graph start s.table (after graph steps s).table n f g.kept (a.right n f k))
          (λ i. let p = a.there f.from i.source in inr (steps, i.steps_are, i.leads, (p.0, g.kept f.from p.0 p.1, p.2))) (g.came n f h);
      bound = bound;
      level = λ n f h e. ⊎_elim (λ k. let b = a.bound n f k in absurd (omega (arith, b, e))) (λ i. i.listed) (g.came n f h);
      there = λ n h. ⊎_elim (λ k. absurd k) (λ k. k) (g.listed n h);
      closed = λ n m f h below leads. ⊎_elim
          (λ k. ⊎_elim
          (λ earlier. let p = a.closed n m f k earlier leads in (p.0, g.kept m p.0 p.1, p.2))
          (λ last.
          let e : f.steps ≡ steps = omega (arith, last, below) in
          let p = level_finds graph (steps + 1) s.next s.next (record { table = s.table; next = [] }) (λ i j. j) n m (a.level n f k e) leads (let size = a.size in let w = inside n m leads in omega (arith, size, w)) in
          (p.0, p.1, let b = bound m p.0 p.1 in omega (arith, b, e)))
          (cases_lt f.steps steps))
          (λ i. let e = i.steps_are in absurd (omega (arith, e, below))) (g.came n f h);
    }

pub room_more : (graph : List (List ℕ)) (steps : ℕ) (s : State) → vacant (after graph steps s).table + length (after graph steps s).next ≡ vacant s.table
room_more graph steps s =
    let g : Grew graph (steps + 1) s.next (record { table = s.table; next = [] }) (after graph steps s) = level_grew graph (steps + 1) s.next s.next (record { table = s.table; next = [] }) (λ n k. k) in
    let e = g.count in omega (arith, e)

-- ---- the end

pub searched : (graph : List (List ℕ)) (start steps : ℕ) (s : State) → Levelled graph start steps s → s.next ≡ [] → IsSearched graph start s.table
searched graph start steps s a last = record {
  first = a.first;
  right = a.right;
  closed = λ n m f h leads. ⊎_elim
      (λ below. a.closed n m f h below leads)
      (λ k. let b = a.bound n f h in let e : f.steps ≡ steps = omega (arith, k, b) in absurd (subst (λ (ns : List ℕ). Has ns n) last (a.level n f h e)))
      (cases_lt f.steps steps);
}

-- a chain of steps leads to what is found, in no more steps
pub within_chain : (graph : List (List ℕ)) (start : ℕ) (table : List (Option Discovered)) → IsSearched graph start table
    → (path : List ℕ) (n m : ℕ) (f : Discovered) → found_at table n ≡ Some f → IsChain graph n path m → IsFoundWithin table m (f.steps + length path)
within_chain graph start table a [] n m f h e = (f, subst (λ i. found_at table i ≡ Some f) e h, omega arith)
within_chain graph start table a (k ∷ path) n m f h (leads, rest) =
    let p = a.closed n k f h leads in
    let q = within_chain graph start table a path k m p.0 p.1 rest in
    (q.0, q.1, let x = p.2 in let y = q.2 in omega (arith, x, y))

pub shortest : (graph : List (List ℕ)) (start : ℕ) (table : List (Option Discovered)) → IsSearched graph start table
    → (path : List ℕ) (m : ℕ) → IsChain graph start path m → IsFoundWithin table m (length path)
shortest graph start table a path m chain =
    let p = within_chain graph start table a path start m a.first.0 a.first.1 chain in
    (p.0, p.1, let x = p.2 in let y = a.first.2 in omega (arith, x, y))

-- ---- the way back

-- a step back: from where a step led to the node
pub step_back : (graph : List (List ℕ)) (start : ℕ) (table : List (Option Discovered)) → IsSearched graph start table → (n left before : ℕ)
    → IsFoundAt table n left → 0 < left → ((f : Discovered) → found_at table n ≡ Some f → before ≡ f.from) → IsFoundAt table before (left - 1) × Has (row graph before) n
step_back graph start table a n left before (f, here, is) some back =
    let e : f.from ≡ before = sym (back f here) in
    ⊎_elim
    (λ k. let z = k.0 in absurd (omega (arith, z, is, some)))
    (λ k. let steps : k.0 ≡ left - 1 = (let z = k.1 in omega (arith, z, is, some)) in
    (subst (λ i. IsFoundAt table i (left - 1)) e (subst (λ j. IsFoundAt table f.from j) steps k.3), subst (λ i. Has (row graph i) n) e k.2))
    (a.right n f here)

pub at_start : (graph : List (List ℕ)) (start : ℕ) (table : List (Option Discovered)) → IsSearched graph start table → (n : ℕ) → IsFoundAt table n 0 → start ≡ n
at_start graph start table a n (f, here, is) =
    ⊎_elim (λ k. k.1) (λ k. let z = k.1 in absurd (omega (arith, z, is))) (a.right n f here)

-- ---- what the answers say

pub is_shortest : (graph : List (List ℕ)) (start : ℕ) (table : List (Option Discovered)) → IsSearched graph start table → (m n : ℕ) (f : Discovered) → found_at table m ≡ Some f
    → n ≡ f.steps → (path : List ℕ) → IsChain graph start path m → n ≤ length path
is_shortest graph start table a m n f here is path chain =
    let p = shortest graph start table a path m chain in
    let e : f.steps ≡ p.0.steps = ap (λ (i : Discovered). i.steps) (same_Some f p.0 (sym here ∙ p.1)) in
    let le = p.2 in omega (arith, e, le, is)

pub is_none : (graph : List (List ℕ)) (start : ℕ) (table : List (Option Discovered)) → IsSearched graph start table → (m : ℕ) → found_at table m ≡ None
    → (path : List ℕ) → IsChain graph start path m → ⊥
is_none graph start table a m here path chain = let p = shortest graph start table a path m chain in none-some p.0 (sym here ∙ p.1)

-- ---- the loop

pub some_left : (n : ℕ) (b : Bool) → b ≡ eqb n 0 → b ≡ false → 0 < n
some_left zero b e h = let k : true ≡ false = sym e ∙ h in cc
some_left (suc n) b e h = omega arith

pub none_left : (ns : List ℕ) (b : Bool) → b ≡ eqb (length ns) 0 → b ≡ true → ns ≡ []
none_left [] b e h = refl
none_left (n ∷ ns) b e h = let z : length (n ∷ ns) ≡ 0 = grind (arith, nat_tests) in absurd (omega (arith, z))
