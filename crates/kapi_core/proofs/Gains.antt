-- Each event of the machine is a run of the policy, by the identity that it serves; a list of events is a run too.
use Rattle.std.proofs.Common.{◌≡◌, ℕ, List, [], ◌∷◌, length, Result, Ok, Err, take, sym, ap, ◌∙◌, subst}
use Rattle.std.specs.List.{fold}
use Rattle.std.specs.List.Sorted.{IsStrictlySortedBy}
use Rattle.serde_json.specs.Data.{Data}
use Rattle.kapi_model.specs.declared.row.ResourceRow.{ResourceRow}
use Rattle.kapi_object.specs.Admission.{BodyFault, object_of}
use Rattle.kapi_model.specs.declared.identity.Identity.{Identity}
use Rattle.kapi_http.specs.Cut.{first}
use Rattle.kapi_policy.specs.Objects.{PolicyObjects}
use Rattle.kapi_store.specs.Changes.{placed_all}
use Rattle.kapi_store.specs.Faults.{StoreFault}
use Rattle.kapi_store.specs.Plain.{Plain, PlainChange, creation, trees_left_by, written}
use Rattle.kapi_store.specs.declared.key.Key.{Key}
use Rattle.kapi_escalation.proofs.Writes.{placed_all_keeps, stands_in_order}
use Rattle.kapi_aggregation.specs.Roles.{Labelled, roles_in}
use Rattle.kapi_answer.proofs.Granted.{answers_are_granted}
use Rattle.kapi_answer.specs.Answer.{answer}
use Rattle.kapi_answer.specs.Impersonation.{AreGrantedAs}
use Rattle.kapi_escalation_laws.proofs.Impersonating.{acts_as}
use Rattle.kapi_escalation_laws.proofs.Reached.{objects_give_nothing, objects_never_grow, objects_stay_within, reaches_both, reaches_itself}
use Rattle.kapi_escalation_laws.proofs.StoredTurns.{turn_runs}
use Rattle.kapi_escalation_laws.proofs.StoredWrites.{granted_reach}
use Rattle.kapi_escalation_laws.specs.Runs.{ObjectsReach}
use Rattle.kapi_escalation_laws.specs.StoredStates.{AreInOrder, policy_state}
use Rattle.kapi_core.proofs.Effects.{FaultKind, Effect, effect}
use Rattle.kapi_core.proofs.Effects as effects
use Rattle.kapi_core.proofs.Runs.{Ran, events_made}
use Rattle.kapi_core.specs.declared.event.Answer.{Answer}
use Rattle.kapi_core.specs.declared.event.Event.{Event}
use Rattle.kapi_core.specs.Gains.{NobodyGains, NobodyGainsDuring, RolesNeverGrowBetween, StaysHeld, StaysHeldDuring, acting_by, acting_in, identity_on}
use Rattle.kapi_core.specs.Machine.{Machine, after, policy_of, step}
use Rattle.kapi_core.specs.Opening.{OpeningObject, cluster_key, created_if, empty, opening, opening_objects, with_opening, written_if}
use Rattle.kapi_core.specs.Running.{Running}
use Rattle.kapi_core.specs.Refines.{Refines}

-- the objects stay in the order of their keys, and their policy is run on by the acting identities
pub record IsRunOn (acting : List Identity) (s t : Plain) : Type 0 where
  pub order : AreInOrder t.objects
  pub reached : ObjectsReach acting s.objects t.objects

module _ (acting : List Identity) (s : Plain) (sorted : AreInOrder s.objects) where
  -- some changes are made
  written_is_run_on : (changes : List PlainChange) → ObjectsReach acting s.objects (written changes s).objects → IsRunOn acting s (written changes s)
  written_is_run_on changes reached = record { order = placed_all_keeps (trees_left_by changes) s.objects sorted; reached = reached }

-- ---- events

-- what an event writes is a run of those who act by it
reached : (m : Machine) (e : Event) (changes : List PlainChange) → FaultKind m e changes → AreInOrder m.store.objects
    → ObjectsReach (acting_by m e) m.store.objects (written changes m.store).objects
unfolding placed_all
reached m e changes (effects.none is) sorted =
    let P : List PlainChange → Type 0 = λ cs. ObjectsReach (acting_by m e) m.store.objects (written cs m.store).objects in
    subst P (sym is) (reaches_itself (acting_by m e) (policy_state m.store.objects))
reached m e changes (effects.request conn l item of at is) sorted =
    let granted : AreGrantedAs (policy_of m) l.identity (answer (policy_of m) m.store l.identity item).changes = answers_are_granted (policy_of m) m.store l.identity item in
    let acting : acting_by m e ≡ l.identity ∷ [] = ap (acting_by m) of ∙ ap identity_on at in
    let P : List Identity → Type 0 = λ who. ObjectsReach who m.store.objects (written changes m.store).objects in
    let Q : List PlainChange → Type 0 = λ cs. ObjectsReach (l.identity ∷ []) m.store.objects (written cs m.store).objects in
    subst P (sym acting) (subst Q (sym is)
    (granted_reach l.identity granted.0 (answer (policy_of m) m.store l.identity item).changes m.store.objects sorted (acts_as (policy_of m) l.identity granted.0 granted.1.0) granted.1.1))
reached m e changes (effects.turn turn comes is) sorted = turn_runs (acting_by m e) turn m.store changes sorted comes is

pub event_is_run_on : (m : Machine) (e : Event) → AreInOrder m.store.objects → IsRunOn (acting_by m e) m.store (step m e).1.store
event_is_run_on m e sorted =
    let x : Effect m e (step m e) = effect m e in
    let P : Plain → Type 0 = λ p. IsRunOn (acting_by m e) m.store p in
    subst P (sym x.store) (written_is_run_on (acting_by m e) m.store sorted x.changes (reached m e x.changes x.cause sorted))

-- ---- lists of events

events_reach : (m : Machine) (es : List Event) → AreInOrder m.store.objects → ObjectsReach (acting_in m es) m.store.objects (after m es).store.objects
unfolding acting_in after
events_reach m [] sorted = reaches_itself [] (policy_state m.store.objects)
events_reach m (e ∷ es) sorted =
    let one : IsRunOn (acting_by m e) m.store (step m e).1.store = event_is_run_on m e sorted in
    reaches_both (acting_by m e) (acting_in (step m e).1 es) (policy_state m.store.objects) (policy_state (step m e).1.store.objects)
    (policy_state (after (step m e).1 es).store.objects) one.reached (events_reach (step m e).1 es one.order)

-- the objects stay in the order of their keys
events_order : (m : Machine) (es : List Event) → AreInOrder m.store.objects → AreInOrder (after m es).store.objects
unfolding after
events_order m [] sorted = sorted
events_order m (e ∷ es) sorted = events_order (step m e).1 es (event_is_run_on m e sorted).order

machine_gains : (m : Machine) (es : List Event) → AreInOrder m.store.objects → NobodyGains (roles_in m.store.objects) (acting_in m es) (policy_of m) (policy_of (after m es))
machine_gains m es sorted settled unprivileged =
    objects_give_nothing (acting_in m es) m.store.objects (after m es).store.objects sorted settled unprivileged (events_reach m es sorted)

machine_holds : (m : Machine) (es : List Event) → AreInOrder m.store.objects → StaysHeld (acting_in m es) m (after m es)
machine_holds m es sorted settled unprivileged =
    objects_stay_within (acting_in m es) m.store.objects (after m es).store.objects sorted settled unprivileged (events_reach m es sorted)

-- nobody gains by the events that a running machine made
pub nobody_gains : (old new : Running) (m : Machine) (es : List Event) → Refines old m → Refines new (after m es)
    → NobodyGains (roles_in m.store.objects) (acting_in m es) old.policy new.policy
nobody_gains old new m es before now =
    let roles : List Labelled = roles_in m.store.objects in
    let P : PolicyObjects → Type 0 = λ o. NobodyGains roles (acting_in m es) o (policy_of (after m es)) in
    let Q : PolicyObjects → Type 0 = λ o. NobodyGains roles (acting_in m es) old.policy o in
    subst Q (sym now.policy_is) (subst P (sym before.policy_is) (machine_gains m es (stands_in_order old.store m.changes m.store before.store)))

-- nobody gains by a run
pub ran_gains : (initial now : Running) (told shown : List Answer) (i : ℕ) (events : List Event) → Ran initial now told (take i events) → shown ≡ told → (m : Machine) → Refines initial m
    → NobodyGains (roles_in m.store.objects) (acting_in m (take (length shown) events)) initial.policy now.policy
ran_gains initial now told shown i events ran same m stands =
    let made : take (length shown) events ≡ take i events = ap (λ (xs : List Answer). take (length xs) events) same ∙ events_made told i events ran.count in
    let P : List Event → Type 0 = λ es. NobodyGains (roles_in m.store.objects) (acting_in m es) initial.policy now.policy in
    subst P (sym made) (nobody_gains initial now m (take i events) stands (ran.stands m stands))

-- from any moment on nobody gains by the events of a machine that a running one refines
pub events_gain : (core : Running) (m : Machine) (es : List Event) → Refines core m → NobodyGainsDuring m es
events_gain core m es refines front back is =
    machine_gains (after m front) back (events_order m front (stands_in_order core.store m.changes m.store refines.store))

-- from any moment on all stays within what those held who act by the events that follow
pub events_hold : (core : Running) (m : Machine) (es : List Event) → Refines core m → StaysHeldDuring m es
events_hold core m es refines front back is =
    machine_holds (after m front) back (events_order m front (stands_in_order core.store m.changes m.store refines.store))

-- roles never grow by the events of a machine that a running one refines
pub roles_never_grow : (core : Running) (m : Machine) (front back : List Event) → Refines core m → RolesNeverGrowBetween m front back
roles_never_grow core m front back refines settled unprivileged =
    let sorted = stands_in_order core.store m.changes m.store refines.store in
    objects_never_grow (acting_in m front) (acting_in (after m front) back) m.store.objects (after m front).store.objects (after (after m front) back).store.objects sorted settled unprivileged
    (events_reach m front sorted) (events_reach (after m front) back (events_order m front sorted))

-- ---- from the opening on

written_in_order : (m : Machine) → AreInOrder m.store.objects → (r : Result (List PlainChange) StoreFault) → AreInOrder (written_if m r).store.objects
written_in_order m sorted (Ok changes) = placed_all_keeps (trees_left_by changes) m.store.objects sorted
written_in_order m sorted (Err fault) = sorted

created_in_order : (m : Machine) (key : Key) → AreInOrder m.store.objects → (r : Result Data BodyFault) → AreInOrder (created_if m key r).store.objects
created_in_order m key sorted (Ok tree) = written_in_order m sorted (creation m.store key tree)
created_in_order m key sorted (Err fault) = sorted

openings_in_order : (os : List OpeningObject) (m : Machine) → AreInOrder m.store.objects → AreInOrder (fold with_opening m os).store.objects
unfolding with_opening
openings_in_order [] m sorted = sorted
openings_in_order (o ∷ os) m sorted = openings_in_order os (with_opening m o) (created_in_order m (cluster_key o.row o.name) sorted (object_of o.row o.body))

pub opening_in_order : (table : List ResourceRow) (first : ℕ) → AreInOrder (opening table first).store.objects
unfolding opening IsStrictlySortedBy
opening_in_order table first = openings_in_order opening_objects (empty table first) tt

-- nobody gains between two points of a list of events
pub between_gains : (table : List ResourceRow) (first : ℕ) (before events : List Event)
    → NobodyGains (roles_in (after (opening table first) before).store.objects) (acting_in (after (opening table first) before) events)
    (policy_of (after (opening table first) before)) (policy_of (after (after (opening table first) before) events))
between_gains table first before events =
    machine_gains (after (opening table first) before) events (events_order (opening table first) before (opening_in_order table first))

-- all stays within what those held who act between two points of a list of events
pub between_holds : (table : List ResourceRow) (first : ℕ) (before events : List Event)
    → StaysHeld (acting_in (after (opening table first) before) events) (after (opening table first) before) (after (after (opening table first) before) events)
between_holds table first before events =
    machine_holds (after (opening table first) before) events (events_order (opening table first) before (opening_in_order table first))
