-- The place of a client among the others.
use Rattle.std.proofs.Common.{◌≡◌, ℕ, zero, suc, ◌<◌, ◌≤◌, ◌+◌, ◌==◌, true, false, not, List, [], ◌∷◌, ◌++◌, length, map, set, get_or, refl, sym, ap, ◌∙◌, subst, arith, add-one, Option, Some, None, cond}
use Rattle.std.specs.Prelude.{IfSome}
use Rattle.std.specs.List.{HoldsAt, position, position_from, remove}
use Rattle.std.proofs.Math.Seq.{map-set_same}
use Rattle.std.proofs.lemmas.Bool.{eq-eqb, eqb-true}
use Rattle.std.proofs.lemmas.Iterator.Adapters.{position_from-zero}
use Rattle.std.proofs.lemmas.List.{get_or_default}
use Rattle.std.proofs.lemmas.List.Quantifiers.{position-Some}
use Rattle.kapi_serve.specs.declared.client.Client.{Client}
use Rattle.kapi_serve.specs.Acts.{IsFree, ClientState}
use Rattle.kapi_serve.specs.Private.Clients.{freed, freed_on, others, seat_of, seats_of}

-- so many clients come before one
abbrev pub IsAt : ℕ → List ClientState → List ClientState → ClientState → List ClientState → Type 0
IsAt index seats front x back = (seats ≡ front ++ x ∷ back) × (length front ≡ index)

-- the first client, or the given one if there is none
abbrev head_of : ClientState → List ClientState → ClientState
head_of x [] = x
head_of x (y ∷ ys) = y

-- the clients behind the first
abbrev tail_of : List ClientState → List ClientState
tail_of [] = []
tail_of (x ∷ xs) = xs

-- the clients without one of them
pub is_at_remove : (cs : List Client) (front : List ClientState) (x : ClientState) (back : List ClientState) → seats_of cs ≡ front ++ x ∷ back → seats_of (remove cs (length front)) ≡ front ++ back
is_at_remove [] [] x back is = absurd (cc)
is_at_remove [] (f ∷ fs) x back is = absurd (cc)
is_at_remove (c ∷ cs) [] x back is = ap tail_of is
is_at_remove (c ∷ cs) (f ∷ fs) x back is = (λ j. head_of f (is j) ∷ is_at_remove cs fs x back (ap tail_of is) j)

-- the clients with another in the place of one
pub is_at_set : (cs : List Client) (front : List ClientState) (x : ClientState) (back : List ClientState) (c : Client) → seats_of cs ≡ front ++ x ∷ back → seats_of (set cs (length front) c) ≡ front ++ seat_of c ∷ back
is_at_set [] [] x back c is = absurd (cc)
is_at_set [] (f ∷ fs) x back c is = absurd (cc)
is_at_set (y ∷ cs) [] x back c is = ap (λ xs. seat_of c ∷ tail_of xs) is
is_at_set (y ∷ cs) (f ∷ fs) x back c is = (λ j. head_of f (is j) ∷ is_at_set cs fs x back c (ap tail_of is) j)

-- each client has a place
pub stands_at : (cs : List Client) (i : ℕ) (d : Client) → i < length cs → (front : List ClientState) × (x : ClientState) × (back : List ClientState) × IsAt i (seats_of cs) front x back × (x ≡ seat_of (get_or cs i d))
stands_at [] i d below = absurd (omega (arith, below))
stands_at (c ∷ cs) zero d below = ([], seat_of c, seats_of cs, (refl, refl), refl)
stands_at (c ∷ cs) (suc i) d below =
    let k = stands_at cs i d (omega (arith, below)) in
    (seat_of c ∷ k.0, k.1, k.2, (ap (λ xs. seat_of c ∷ xs) k.3.0, ap suc k.3.1), k.4)

-- no client of a slot is found
pub none_on : (cs : List Client) (slot i : ℕ) → position_from (λ c. c.slot == slot) i cs ≡ None → IsFree slot (seats_of cs)
unfolding IsFree
none_on [] slot i none = tt
none_on (c ∷ cs) slot i none = elim (c.slot == slot) as (λ b. (c.slot == slot) ≡ b → cond b (Some i) (position_from (λ y. y.slot == slot) (i + 1) cs) ≡ None → IsFree slot (seats_of (c ∷ cs)))
    [ true ↦ λ e h. absurd (cc) | false ↦ λ e h. (e, none_on cs slot (i + 1) h) ] refl none

-- ---- by the number of those in front

pub at_remove : (cs : List Client) (i : ℕ) (front : List ClientState) (x : ClientState) (back : List ClientState) → IsAt i (seats_of cs) front x back → seats_of (remove cs i) ≡ front ++ back
at_remove cs i front x back at = subst (λ n. seats_of (remove cs n) ≡ front ++ back) at.1 (is_at_remove cs front x back at.0)

pub at_set : (cs : List Client) (i : ℕ) (front : List ClientState) (x : ClientState) (back : List ClientState) (c : Client) → IsAt i (seats_of cs) front x back → seats_of (set cs i c) ≡ front ++ seat_of c ∷ back
at_set cs i front x back c at = subst (λ n. seats_of (set cs n c) ≡ front ++ seat_of c ∷ back) at.1 (is_at_set cs front x back c at.0)

-- a client in whose place another of the same seat is put
pub seats_same : (cs : List Client) (i : ℕ) (c d : Client) → seat_of c ≡ seat_of (get_or cs i d) → seats_of (set cs i c) ≡ seats_of cs
seats_same cs i c d same = map-set_same seat_of cs i c d same

-- the first client of a slot is on it
pub found_at : (cs : List Client) (slot : ℕ) (r : Option ℕ) → r ≡ position (λ c. c.slot == slot) cs → IfSome r (λ i. HoldsAt (λ c. c.slot ≡ slot) cs i)
found_at cs slot None is = tt
found_at cs slot (Some i) is = λ d. let p = position-Some (λ y. y.slot == slot) cs i d (sym is) in eqb-true (get_or cs i d).slot slot p.1

pub free_of : (cs : List Client) (slot : ℕ) (r : Option ℕ) → r ≡ position (λ c. c.slot == slot) cs → r ≡ None → IsFree slot (seats_of cs)
free_of cs slot r is none = none_on cs slot 0 (sym (position_from-zero (λ c. c.slot == slot) cs) ∙ sym is ∙ none)

-- without one of a slot, the others are the same
pub others_left : (slot : ℕ) (front : List ClientState) (x : ClientState) (back : List ClientState) → x.slot ≡ slot → others slot (front ++ back) ≡ others slot (front ++ x ∷ back)
others_left slot [] x back is = ap (λ b. cond (not b) (x ∷ others slot back) (others slot back)) (sym (eq-eqb x.slot slot is))
others_left slot (f ∷ front) x back is = ap (λ xs. cond (not (f.slot == slot)) (f ∷ xs) xs) (others_left slot front x back is)

-- the clients are the others after the end of one
pub others_ended : (slot i : ℕ) (cs ds : List Client) (e : Client) → i < length cs → (get_or cs i e).slot ≡ slot → ds ≡ remove cs i → others slot (seats_of ds) ≡ others slot (seats_of cs)
others_ended slot i cs ds e below on left =
    let k = stands_at cs i e below in
    ap (λ l. others slot (seats_of l)) left ∙ ap (λ xs. others slot xs) (at_remove cs i k.0 k.1 k.2 k.3) ∙ others_left slot k.0 k.1 k.2 (ap (λ z. z.slot) k.4 ∙ on) ∙ ap (λ xs. others slot xs) (sym k.3.0)

-- a client that was fed has the same seat
pub fed_same : (cs ds : List Client) (i : ℕ) (e : Client) → HoldsAt (λ c. ds ≡ set cs i (record c { fed = true })) cs i → seats_of ds ≡ seats_of cs
fed_same cs ds i e is = ap seats_of (is e) ∙ seats_same cs i (record (get_or cs i e) { fed = true }) e refl

-- ---- blocked clients

-- the first client of a slot is freed
freed_first : (cs : List Client) (slot i : ℕ) (c : Client) → i < length cs → c ≡ get_or cs i c → (get_or cs i c).slot == slot ≡ true
    → ((k : ℕ) → k < i → (get_or cs k c).slot == slot ≡ false) → set cs i (freed c) ≡ freed_on slot cs
freed_first [] slot i c below at here before = absurd (omega arith)
freed_first (x ∷ xs) slot zero c below at here before = rw (here, at) refl
freed_first (x ∷ xs) slot (suc i) c below at here before =
    rw (before zero (omega arith)) (ap (λ ys. x ∷ ys) (freed_first xs slot i c (omega arith) at here (λ k l. before (suc k) (omega arith))))

pub freed_found : (cs ds : List Client) (slot i : ℕ) → Some i ≡ position (λ c. c.slot == slot) cs → i < length cs → HoldsAt (λ c. ds ≡ set cs i (freed c)) cs i → ds ≡ freed_on slot cs
freed_found [] ds slot i is below holds = absurd (omega (arith, below))
freed_found (x ∷ xs) ds slot i is below holds =
    let cs : List Client = x ∷ xs in
    let c : Client = get_or cs i x in
    let p = position-Some (λ y. y.slot == slot) cs i c (sym is) in
    holds x ∙ freed_first cs slot i c p.0 (get_or_default cs i x c below) p.1 p.2

-- if no client is on a slot, none is freed
pub freed_none : (cs : List Client) (slot : ℕ) → IsFree slot (seats_of cs) → cs ≡ freed_on slot cs
unfolding IsFree
freed_none [] slot free = refl
freed_none (c ∷ cs) slot free = rw free.0 (ap (λ ys. c ∷ ys) (freed_none cs slot free.1))

-- the clients after the front ones were freed
abbrev pub freed_to : ℕ → List Client → List Client
freed_to zero cs = cs
freed_to (suc n) [] = []
freed_to (suc n) (c ∷ cs) = freed c ∷ freed_to n cs

freed_length : (n : ℕ) (cs : List Client) → length (freed_to n cs) ≡ length cs
freed_length zero cs = refl
freed_length (suc n) [] = refl
freed_length (suc n) (c ∷ cs) = ap suc (freed_length n cs)

freed_more : (cs : List Client) (i : ℕ) (c : Client) → i < length cs → c ≡ get_or (freed_to i cs) i c → set (freed_to i cs) i (freed c) ≡ freed_to (suc i) cs
freed_more [] i c below at = absurd (omega arith)
freed_more (x ∷ xs) zero c below at = ap (λ y. freed y ∷ xs) at
freed_more (x ∷ xs) (suc i) c below at = ap (λ ys. freed x ∷ ys) (freed_more xs i c (omega arith) at)

pub freed_next : (cs ds es : List Client) (i : ℕ) → i < length cs → ds ≡ freed_to i cs → HoldsAt (λ c. es ≡ set ds i (freed c)) ds i → es ≡ freed_to (i + 1) cs
freed_next [] ds es i below is holds = absurd (omega (arith, below))
freed_next (x ∷ xs) ds es i below is holds =
    let cs : List Client = x ∷ xs in
    let c : Client = get_or (freed_to i cs) i x in
    holds x ∙ ap (λ ys. set ys i (freed (get_or ys i x))) is ∙ rw add-one (freed_more cs i c below (get_or_default (freed_to i cs) i x c (subst (λ n. i < n) (sym (freed_length i cs)) below)))

pub freed_whole : (cs : List Client) (n : ℕ) → length cs ≤ n → freed_to n cs ≡ map freed cs
freed_whole [] zero all = refl
freed_whole [] (suc n) all = refl
freed_whole (c ∷ cs) zero all = absurd (omega arith)
freed_whole (c ∷ cs) (suc n) all = ap (λ ys. freed c ∷ ys) (freed_whole cs n (omega arith))
