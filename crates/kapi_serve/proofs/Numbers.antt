-- The numbers of connections count up.
use Rattle.std.proofs.Common.{◌≡◌, ℕ, ◌+◌, ◌≤◌, Bool, true, false, if◌then◌else◌, List, [], ◌∷◌, ◌++◌, refl, ap, arith}
use Rattle.kapi_core.proofs.Effects.{Moves, effect}
use Rattle.kapi_core.proofs.Effects as effects
use Rattle.kapi_core.specs.Machine.{Machine, after, answers, open_step, step}
use Rattle.kapi_core.specs.declared.event.Answer.{Answer}
use Rattle.kapi_core.specs.declared.event.Answer.TheVariants as told
use Rattle.kapi_core.specs.declared.event.ConnId.{ConnId}
use Rattle.kapi_core.specs.declared.event.Event.{Event}
use Rattle.kapi_core.specs.declared.event.Event.TheVariants as event
use Rattle.kapi_model.specs.declared.identity.Identity.{Identity}
use Rattle.kapi_serve.specs.Account.{Made}
use Rattle.kapi_serve.specs.Acts.{answers_of, events_of}

-- ---- opening

-- one of two results opens the next number, and the other none
opens_if : (b : Bool) (x y : Answer × Machine) (n : ℕ) (c : ConnId) → x.0 ≡ told.Opened (record { 0 = n }) → x.1.next_id ≡ n + 1 → y.0 ≡ told.TooMany
    → (if b then x else y).0 ≡ told.Opened c → (c.0 ≡ n) × ((if b then x else y).1.next_id ≡ n + 1)
opens_if true x y n c opens next many is = let same : c ≡ record { 0 = n } = cc in (ap (λ d. d.0) same, next)
opens_if false x y n c opens next many is = absurd (cc)

-- a connection that is opened has the next number
pub opened_next : (m : Machine) (who : Identity) (c : ConnId) → (step m (event.Open who)).0 ≡ told.Opened c
    → (c.0 ≡ m.next_id) × ((step m (event.Open who)).1.next_id ≡ m.next_id + 1)
unfolding step open_step
opened_next m who c is = opens_if _ _ _ m.next_id c refl refl refl is

-- ---- all events

-- no event counts back
pub grows_by : (m : Machine) (e : Event) → m.next_id ≤ (step m e).1.next_id
grows_by m e = by_moves (effect m e).moves
  where
    by_moves : Moves m e (step m e).1 → m.next_id ≤ (step m e).1.next_id
    by_moves (effects.stays links next) = omega (arith, next)
    by_moves (effects.opens identity of links next) = omega (arith, next)
    by_moves (effects.goes_on old new at same links next) = omega (arith, next)
    by_moves (effects.ends links next) = omega (arith, next)

-- no list of events counts back
pub grows : (m : Machine) (es : List Event) → m.next_id ≤ (after m es).next_id
unfolding after
grows m [] = omega arith
grows m (e ∷ es) = omega (arith, grows_by m e, grows (step m e).1 es)

-- ---- answers

-- if lists are the same, their first elements are
pub first_same : (x y : Answer) (xs ys : List Answer) → x ∷ xs ≡ y ∷ ys → x ≡ y
first_same x y xs ys e = cc

-- if lists are the same, the rests of the lists are
pub rest_same : (x y : Answer) (xs ys : List Answer) → x ∷ xs ≡ y ∷ ys → xs ≡ ys
rest_same x y xs ys e = cc

-- if all answers are the machine's, the later ones are those of the machine after the first
pub told_later : (m : Machine) (ms ns : List Made) → answers_of (ms ++ ns) ≡ answers m (events_of (ms ++ ns))
    → answers_of ns ≡ answers (after m (events_of ms)) (events_of ns)
unfolding answers after
told_later m [] ns same = same
told_later m (x ∷ ms) ns same =
    let p : Machine = (step m x.event).1 in
    told_later p ms ns (rest_same x.answer (step m x.event).0 (answers_of (ms ++ ns)) (answers p (events_of (ms ++ ns))) same)
