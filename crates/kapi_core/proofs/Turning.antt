-- A turn of the running machine is that of the model.
use Rattle.std.proofs.Common.{arith, ◌≡◌, ◌==◌, ℕ, true, false, not, length, List, [], ◌∷◌, Option, None, Some, Result, Ok, Err, refl, sym, ap, ◌∙◌, subst, Bool}
use Rattle.std.specs.declared.alloc.AllocError.{AllocError}
use Rattle.std.proofs.lemmas.Bool.{eqb-true}
use Rattle.kapi_aggregation.specs.Marks.{Covers, Tracked, turn_if_marked}
use Rattle.kapi_aggregation.specs.Rewriting.{rewriting}
use Rattle.kapi_aggregation.specs.Roles.{Labelled, roles_in}
use Rattle.kapi_aggregation.specs.Turns.{first_some, next}
use Rattle.kapi_aggregation.proofs.Turning.{found_where_covered, none_unmarked}
use Rattle.kapi_aggregation.specs.declared.turn.Turn.{Turn}
use Rattle.kapi_store.specs.Faults.{StoreFault}
use Rattle.kapi_store.specs.Plain.{Plain, PlainChange, plain_of}
use Rattle.kapi_policy.specs.Objects.{PolicyObjects}
use Rattle.kapi_store.specs.State.{State}
use Rattle.kapi_core.specs.Machine.{Link, Machine, after_turn, step, turn_step, turned_by}
use Rattle.kapi_core.specs.Running.{Running}
use Rattle.kapi_core.specs.Refines.{AreLinks, RunsOut, RefinesMachine, Turns, is_early}
use Rattle.kapi_core.specs.Private.Writes.{TurnsInto, Writes}
use Rattle.kapi_core.specs.declared.connection.Connection.{Connection}
use Rattle.kapi_core.specs.declared.event.Event.TheVariants as event
use Rattle.kapi_core.specs.declared.event.Answer.TheVariants as told
use Rattle.kapi_core.specs.declared.event.Turned.{Turned}
use Rattle.kapi_core.proofs.AlikeLinks.{changes_follow, links_written}
use Rattle.kapi_core.proofs.Steps.{HasHistory, HasMarks, HasPolicy, Made, machine_of, made_for}

-- a turn is answered late, if at all
pub turned_late : (m : Machine) → is_early (step m event.Turn).0 ≡ false
unfolding step turn_step
turned_late m = by_due (next (roles_in m.store.objects))
  where
    by_write : (name : List ℕ) (r : Result (List PlainChange) StoreFault) → is_early (after_turn name r m).0 ≡ false
    by_write name (Ok changes) = refl
    by_write name (Err fault) = refl

    by_due : (due : Option Turn) → is_early (turned_by due m).0 ≡ false
    by_due None = refl
    by_due (Some turn) = by_write turn.name (rewriting turn m.store)

-- the cluster roles of a store
abbrev pub roles_at : State → List Labelled
roles_at s = roles_in (plain_of s).objects

-- the turn that is due, if the marks cover the cluster roles of the store
abbrev pub IsDue : State → Tracked → Option Turn → Type 0
IsDue s ms due = Covers ms (roles_at s) → due ≡ next (roles_at s)

-- marks that cover the cluster roles of the store, if the others do
abbrev pub StillCovers : State → Tracked → Tracked → Type 0
StillCovers s ms ns = Covers ms (roles_at s) → Covers ns (roles_at s)

no_marks : {X : Type 0} (xs : List X) → length xs ≡ 0 → xs ≡ []
no_marks [] none = refl
no_marks (x ∷ xs) none = absurd (omega (arith, none))

twice_not : (b : Bool) → not (not b) ≡ true → b ≡ true
twice_not true h = refl
twice_not false h = h

-- without a mark no turn is due
pub unmarked_due : (s : State) (ms : Tracked) → not (not (length ms.marks == 0)) ≡ true → IsDue s ms None
unmarked_due s ms none v =
    let empty : ms.marks ≡ [] = no_marks ms.marks (eqb-true (length ms.marks) 0 (twice_not (length ms.marks == 0) none)) in
    sym (none_unmarked (roles_at s) (roles_at s)) ∙ ap (λ marks. first_some (turn_if_marked marks (roles_at s)) (roles_at s)) (sym empty) ∙ found_where_covered ms (roles_at s) v

-- no turn is due
not_turned : (s : State) (o : PolicyObjects) (ms ns : Tracked) (es : List (ℕ × Connection)) (n : ℕ) (on : Bool) → IsDue s ms None → StillCovers s ms ns
    → (cs : List PlainChange) → HasHistory s cs → HasPolicy s o → HasMarks s ms → (ps : List (ℕ × Link)) → AreLinks cs (plain_of s) es ps → Made s o ns es n on (machine_of s cs n on ps) event.Turn told.Nothing
unfolding step turn_step
not_turned s o ms ns es n on due still cs k p v ps h =
    let m = machine_of s cs n on ps in
    let P : Option Turn → Type 0 = λ d. (told.Nothing ≡ (turned_by d m).0) × RefinesMachine s o ns es n on (turned_by d m).1 in
    subst P (due v) (refl, record { store = k; policy_is = p; covers = still v; next_id = refl; rechecks = refl; links = h })

pub nothing_turned : (old : Running) (ns : Tracked) → IsDue old.store old.marks None → StillCovers old.store old.marks ns → Turns old (record old { marks = ns }) (Ok None)
nothing_turned old ns due still = λ m h.
    made_for old.store old.policy old.marks old.connections old.next_id old.rechecks m old.store old.policy ns old.connections old.next_id old.rechecks event.Turn told.Nothing h
    (not_turned old.store old.policy old.marks ns old.connections old.next_id old.rechecks due still)

-- memory runs out before a turn was due
pub kept_due : (old : Running) (ns : Tracked) → StillCovers old.store old.marks ns → RunsOut old (record old { marks = ns }) event.Turn
kept_due old ns still = λ m h.
    let P : Plain → Type 0 = λ p. Covers old.marks (roles_in p.objects) → Covers ns (roles_in p.objects) in
    (record { store = h.store; policy_is = h.policy_is; covers = subst P h.store.plain still h.covers; next_id = h.next_id; rechecks = h.rechecks; links = h.links }, turned_late m)

-- a turn that was written
turn_written : (s t : State) (o u : PolicyObjects) (ms ls ns : Tracked) (es : List (ℕ × Connection)) (n : ℕ) (on : Bool) (turn : Turn) (changes : List PlainChange) (turned : Turned)
    → IsDue s ms (Some turn) → StillCovers s ms ls → rewriting turn (plain_of s) ≡ Ok changes → told.Turned turned ≡ (after_turn turn.name (Ok changes) (machine_of s [] n on [])).0 → Writes s o ls t u ns changes
    → (cs : List PlainChange) → HasHistory s cs → HasPolicy s o → HasMarks s ms → (ps : List (ℕ × Link)) → AreLinks cs (plain_of s) es ps → Made t u ns es n on (machine_of s cs n on ps) event.Turn (told.Turned turned)
unfolding step turn_step
turn_written s t o u ms ls ns es n on turn changes turned due still is tells writes cs k p v ps h =
    let m = machine_of s cs n on ps in
    let P : Option Turn → Type 0 = λ d. (told.Turned turned ≡ (turned_by d m).0) × RefinesMachine t u ns es n on (turned_by d m).1 in
    let Q : Result (List PlainChange) StoreFault → Type 0 = λ r. (told.Turned turned ≡ (after_turn turn.name r m).0) × RefinesMachine t u ns es n on (after_turn turn.name r m).1 in
    let after = writes cs (plain_of s) k p (still v) in
    let links = links_written cs changes (plain_of s) (changes_follow s t cs changes (plain_of s) k after.0) es ps h in
    subst P (due v) (subst Q (sym is) (tells, record { store = after.0; policy_is = after.1; covers = after.2; next_id = refl; rechecks = refl; links = links }))

-- a turn that was refused
turn_refused : (s t : State) (o u : PolicyObjects) (ms ls ns : Tracked) (es : List (ℕ × Connection)) (n : ℕ) (on : Bool) (turn : Turn) (fault : StoreFault)
    → IsDue s ms (Some turn) → StillCovers s ms ls → rewriting turn (plain_of s) ≡ Err fault → t ≡ s → u ≡ o → StillCovers s ls ns
    → (cs : List PlainChange) → HasHistory s cs → HasPolicy s o → HasMarks s ms → (ps : List (ℕ × Link)) → AreLinks cs (plain_of s) es ps → Made t u ns es n on (machine_of s cs n on ps) event.Turn told.Nothing
unfolding step turn_step
turn_refused s t o u ms ls ns es n on turn fault due still is same kept goes cs k p v ps h =
    let m = machine_of s cs n on ps in
    let P : Option Turn → Type 0 = λ d. (told.Nothing ≡ (turned_by d m).0) × RefinesMachine s o ns es n on (turned_by d m).1 in
    let Q : Result (List PlainChange) StoreFault → Type 0 = λ r. (told.Nothing ≡ (after_turn turn.name r m).0) × RefinesMachine s o ns es n on (after_turn turn.name r m).1 in
    rw (same, kept) (subst P (due v) (subst Q (sym is) (refl, record { store = k; policy_is = p; covers = goes (still v); next_id = refl; rechecks = refl; links = h })))

-- what became of the store, the policy and the marks became of the machine
pub turned_into : (old : Running) (ls : Tracked) (t : State) (u : PolicyObjects) (ns : Tracked) (turn : Turn) (result : Result (Option Turned) AllocError)
    → IsDue old.store old.marks (Some turn) → StillCovers old.store old.marks ls → TurnsInto old.store old.policy ls t u ns turn result
    → Turns old (record old { store = t; policy = u; marks = ns }) result
turned_into old ls t u ns turn (Ok (Some turned)) due still (changes, is, tells, writes) = λ m h.
    made_for old.store old.policy old.marks old.connections old.next_id old.rechecks m t u ns old.connections old.next_id old.rechecks event.Turn (told.Turned turned) h
    (turn_written old.store t old.policy u old.marks ls ns old.connections old.next_id old.rechecks turn changes turned due still is (ap told.Turned tells) writes)
turned_into old ls t u ns turn (Ok None) due still (fault, is, same, kept, on) = λ m h.
    made_for old.store old.policy old.marks old.connections old.next_id old.rechecks m t u ns old.connections old.next_id old.rechecks event.Turn told.Nothing h
    (turn_refused old.store t old.policy u old.marks ls ns old.connections old.next_id old.rechecks turn fault due still is same kept (on (roles_at old.store)))
turned_into old ls t u ns turn (Err e) due still (same, kept, on) = λ m h.
    let roles : StillCovers old.store old.marks ns = λ v. on (roles_at old.store) (still v) in
    let P : Plain → Type 0 = λ p. Covers old.marks (roles_in p.objects) → Covers ns (roles_in p.objects) in (
      record { store = rw same h.store; policy_is = kept ∙ h.policy_is; covers = subst P h.store.plain roles h.covers; next_id = h.next_id; rechecks = h.rechecks; links = h.links },
      turned_late m,
    )
