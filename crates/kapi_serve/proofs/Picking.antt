-- The least that a loop finds: which client of a listener has idled longest, and by which listener the fewest came.
use Rattle.std.proofs.Common.{◌≡◌, ◌<◌, ◌≤◌, ◌+◌, ℕ, Bool, zero, suc, true, false, List, [], ◌∷◌, Option, Some, None, inl, inr, length, get_or, refl, sym, ap, ◌∙◌, subst, arith}
use Rattle.std.specs.Prelude.{◌⊎◌, HoldsAt, IfSome, cond, filter}
use Rattle.std.proofs.lemmas.Bool.{cases_lt, false≢true}
use Rattle.std.proofs.lemmas.List.{get_or_default, get_or_past}
use Rattle.kapi_serve.specs.Places.{IsIdlest, count_by, is_by, last_used}
use Rattle.kapi_serve.specs.declared.listener.Listener.{Listener}
use Rattle.kapi_serve.specs.declared.stream.Stream.{Stream}

-- ---- any places

-- of the places before one that may be chosen, this one has the least; or none may
abbrev pub IsBest : (ℕ → Type 0) → (ℕ → ℕ) → ℕ → Option ℕ → Type 0
IsBest may least end None = (i : ℕ) → i < end → may i → ⊥
IsBest may least end (Some s) = may s × ((i : ℕ) → i < end → may i → least s ≤ least i)

same_place : (i end : ℕ) → i < end + 1 → end ≤ i → i ≡ end
same_place i end below above = omega (arith, below, above)

-- what holds at the places before one and at this one holds at those before the next
each_more : (P : ℕ → Type 0) (end : ℕ) → ((i : ℕ) → i < end → P i) → P end → (i : ℕ) → i < end + 1 → P i
each_more P end before here i below = by_side (cases_lt i end)
  where
    by_side : (i < end) ⊎ (end ≤ i) → P i
    by_side (inl early) = before i early
    by_side (inr late) = subst (λ k. P k) (sym (same_place i end below late)) here

pub none_yet : (may : ℕ → Type 0) (least : ℕ → ℕ) → IsBest may least 0 None
none_yet may least i below = absurd (omega (arith, below))

-- the next may not be chosen
pub passes_other : (may : ℕ → Type 0) (least : ℕ → ℕ) (end : ℕ) (found : Option ℕ) → (may end → ⊥) → IsBest may least end found → IsBest may least (end + 1) found
passes_other may least end None never h = each_more (λ i. may i → ⊥) end h never
passes_other may least end (Some s) never h = (h.0, each_more (λ i. may i → least s ≤ least i) end h.1 (λ its. absurd (never its)))

-- the next has no less
pub passes_later : (may : ℕ → Type 0) (least : ℕ → ℕ) (end : ℕ) (found : Option ℕ) → (found ≡ None → ⊥) → ((s : ℕ) → found ≡ Some s → least s ≤ least end)
    → IsBest may least end found → IsBest may least (end + 1) found
passes_later may least end None some later h = absurd (some refl)
passes_later may least end (Some s) some later h = (h.0, each_more (λ i. may i → least s ≤ least i) end h.1 (λ its. later s refl))

-- the next has less
pub takes : (may : ℕ → Type 0) (least : ℕ → ℕ) (end : ℕ) (found : Option ℕ) → may end → ((s : ℕ) → found ≡ Some s → least end ≤ least s)
    → IsBest may least end found → IsBest may least (end + 1) (Some end)
takes may least end None its less h = (its, each_more (λ i. may i → least end ≤ least i) end (λ i early there. absurd (h i early there)) (λ here. omega arith))
takes may least end (Some s) its less h =
    (its, each_more (λ i. may i → least end ≤ least i) end (λ i early there. let a = less s refl in let b = h.1 i early there in omega (arith, a, b)) (λ here. omega arith))

-- ---- clients

-- what a slot has, if it is one
abbrev at : List (Option Stream) → ℕ → Option Stream
at slots i = get_or slots i None

-- of the slots before one, the idlest of a listener was found
abbrev pub IsFound : ℕ → List (Option Stream) → ℕ → Option ℕ → Type 0
IsFound listener slots end found = IsBest (λ i. is_by listener (at slots i) ≡ true) (λ i. last_used (at slots i)) end found

-- a client that came by a listener is in a slot
by_below : (l : ℕ) (slots : List (Option Stream)) (s : ℕ) → is_by l (at slots s) ≡ true → s < length slots
by_below l slots s by = by_side (cases_lt s (length slots))
  where
    by_side : (s < length slots) ⊎ (length slots ≤ s) → s < length slots
    by_side (inl below) = below
    by_side (inr past) = absurd (false≢true (ap (λ place. is_by l place) (sym (get_or_past slots s None past)) ∙ by))

pub found_below : (l : ℕ) (slots : List (Option Stream)) (end : ℕ) (found : Option ℕ) → IsFound l slots end found → IfSome found (λ o. o < length slots)
found_below l slots end None h = tt
found_below l slots end (Some s) h = by_below l slots s h.0

-- after all slots, the client that was found has idled longest
pub found_is_idlest : (l : ℕ) (slots : List (Option Stream)) (end : ℕ) (found : Option ℕ) → length slots ≤ end → IsFound l slots end found
    → IfSome found (λ slot. (slot < length slots) × IsIdlest l slots slot)
found_is_idlest l slots end None past h = tt
found_is_idlest l slots end (Some s) past h =
    let within : s < length slots = by_below l slots s h.0 in (
      within,
      λ d.
          let here : at slots s ≡ get_or slots s d = get_or_default slots s None d within in (
            subst (λ place. is_by l place ≡ true) here h.0,
            λ i below e its.
                let there : at slots i ≡ get_or slots i e = get_or_default slots i None e below in
                subst (λ place. last_used place ≤ last_used (get_or slots i e)) here
                (subst (λ place. last_used (at slots s) ≤ last_used place) there (h.1 i (omega (arith, below, past)) (subst (λ place. is_by l place ≡ true) (sym there) its))),
          ),
    )

-- if none was found, none came by the listener
none_came : (l : ℕ) (slots : List (Option Stream)) → ((i : ℕ) → i < length slots → is_by l (at slots i) ≡ true → ⊥) → count_by l slots ≡ 0
none_came l [] h = refl
none_came l (x ∷ xs) h =
    let rest = none_came l xs (λ i below. h (suc i) (omega (arith, below))) in
    ap (λ b. length (cond b (x ∷ filter (λ place. is_by l place) xs) (filter (λ place. is_by l place) xs))) (not_by (is_by l x) (h zero (omega arith))) ∙ rest
  where
    not_by : (b : Bool) → (b ≡ true → ⊥) → b ≡ false
    not_by true never = absurd (never refl)
    not_by false never = refl

pub none_found : (l : ℕ) (slots : List (Option Stream)) (end : ℕ) (found : Option ℕ) → length slots ≤ end → IsFound l slots end found → found ≡ None → count_by l slots ≡ 0
none_found l slots end None past h is = none_came l slots (λ i below. h i (omega (arith, below, past)))
none_found l slots end (Some s) past h is = absurd (some_none s is)
  where
    some_none : (s : ℕ) → (◌≡◌ {A = Option ℕ} (Some s) None) → ⊥
    some_none s is = cc

-- ---- listeners

-- a client may wait at a listener, and be accepted
abbrev pub HasTurn : List Listener → ℕ → Type 0
HasTurn ls i = (i < length ls) × HoldsAt (λ (l : Listener). (l.waiting ≡ true) × (0 < l.left)) ls i

-- of the listeners before one that have a turn, the one by which the fewest clients came was found
abbrev pub IsFewest : List Listener → List (Option Stream) → ℕ → Option ℕ → Type 0
IsFewest ls slots end found = IsBest (λ i. HasTurn ls i) (λ i. count_by i slots) end found

-- a listener has a turn, whatever would be read beside the list
pub has_turn : (ls : List Listener) (i : ℕ) (l : Listener) → i < length ls → l ≡ get_or ls i l → (l.waiting ≡ true) × (0 < l.left) → HasTurn ls i
has_turn ls i l below is its = (below, λ d. subst (λ (k : Listener). (k.waiting ≡ true) × (0 < k.left)) (is ∙ get_or_default ls i l d below) its)

pub fewest_below : (ls : List Listener) (slots : List (Option Stream)) (end : ℕ) (found : Option ℕ) → IsFewest ls slots end found → IfSome found (λ o. o < length ls)
fewest_below ls slots end None h = tt
fewest_below ls slots end (Some s) h = h.0.0

pub fewest_of_all : (ls : List Listener) (slots : List (Option Stream)) (end : ℕ) (found : Option ℕ) → length ls ≤ end → IsFewest ls slots end found
    → IfSome found (λ index. (other : ℕ) → other < length ls → HoldsAt (λ (l : Listener). l.waiting ≡ true → 0 < l.left → count_by index slots ≤ count_by other slots) ls other)
fewest_of_all ls slots end None past h = tt
fewest_of_all ls slots end (Some s) past h = λ i below d waits left. h.1 i (omega (arith, below, past)) (has_turn ls i (get_or ls i d) below (get_or_default ls i d (get_or ls i d) below) (waits, left))

pub nobody_waits : (ls : List Listener) (slots : List (Option Stream)) (end : ℕ) (found : Option ℕ) → length ls ≤ end → IsFewest ls slots end found → found ≡ None
    → (i : ℕ) → i < length ls → HoldsAt (λ (l : Listener). l.waiting ≡ true → 0 < l.left → ⊥) ls i
nobody_waits ls slots end None past h is = λ i below d waits left. h i (omega (arith, below, past)) (has_turn ls i (get_or ls i d) below (get_or_default ls i d (get_or ls i d) below) (waits, left))
nobody_waits ls slots end (Some s) past h is = absurd (some_none s is)
  where
    some_none : (s : ℕ) → (◌≡◌ {A = Option ℕ} (Some s) None) → ⊥
    some_none s is = cc
