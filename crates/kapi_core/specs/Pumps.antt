-- The watch of a connection over a list of events: which run of a watch it is, and what is sent of it.
use Rattle.std.specs.Prelude.{◌≡◌, ℕ, ◌==◌, Bool, false, if◌then◌else◌, List, [], ◌∷◌, ◌++◌, length, drop, Option, Some, IsSome}
use Rattle.std.specs.Option.{option_and_then}
use Rattle.kapi_answer.specs.Watch.{PlainWatching, event_chunk}
use Rattle.kapi_model.specs.declared.row.ResourceRow.{ResourceRow}
use Rattle.kapi_store.specs.Plain.{PlainChange}
use Rattle.kapi_watch.specs.Lists.{all_on_top, list_at}
use Rattle.kapi_watch.specs.Runs.{HoldsOn, Made, Pump, Step, shown_over, still_due, watch_after}
use Rattle.kapi_watch.specs.Shown.{Added, Deleted, Expired, Modified, Refused, Shown}
use Rattle.kapi_watch.specs.Text.{type_of}
use Rattle.kapi_watch.specs.Watches.{started_at, started_now}
use Rattle.kapi_watch.specs.declared.scope.WatchScope.{WatchScope}
use Rattle.kapi_core.specs.Histories.{IsBetween, list_of, served}
use Rattle.kapi_core.specs.Machine.{Machine, after, link_at, step}
use Rattle.kapi_core.specs.declared.event.Answer.{Answer}
use Rattle.kapi_core.specs.declared.event.Answer.TheVariants as told
use Rattle.kapi_core.specs.declared.event.Event.{Event}
use Rattle.kapi_core.specs.declared.event.Event.TheVariants as event

-- the watch that the connection of a number shows, if it shows one
abbrev pub watch_on : ℕ → Machine → Option PlainWatching
watch_on id m = option_and_then (λ l. l.watching) (link_at id m)

-- after each of the events the connection still shows a watch
unfoldable pub WatchesOn : ℕ → Machine → List Event → Type 0
WatchesOn id m [] = Unit {0}
WatchesOn id m (e ∷ es) = IsSome (watch_on id (step m e).1) × WatchesOn id (step m e).1 es

-- ---- the run

-- what an event changed: the changes behind those that were there before
abbrev pub made_by : Machine → Event → List PlainChange
made_by m e = drop (length m.changes) (step m e).1.changes

-- whether an event pumps the watch of the connection
abbrev pub pumps : ℕ → Event → Bool
pumps id (event.Pump conn) = conn.0 == id
pumps id e = false

-- what an event is to the watch of a connection: a pump, or changes that are made
abbrev pub moment_of : ℕ → Machine → Event → Step
moment_of id m e = if pumps id e then Pump else Made (made_by m e)

-- what events are to the watch of a connection, one after the other
unfoldable pub run_on : ℕ → Machine → List Event → List Step
run_on id m [] = []
run_on id m (e ∷ es) = moment_of id m e ∷ run_on id (step m e).1 es

-- ---- what is sent

-- whether an event asks the machine for bytes to the connection
abbrev pub asks : ℕ → Event → Bool
asks id (event.Serve conn) = conn.0 == id
asks id (event.Pump conn) = conn.0 == id
asks id e = false

-- the bytes of an answer
abbrev pub bytes_of : Answer → List ℕ
bytes_of (told.Sent output) = output.bytes
bytes_of answer = []

-- what an event sends on the connection
abbrev pub sent_by : ℕ → Machine → Event → List ℕ
sent_by id m e = if asks id e then bytes_of (step m e).0 else []

-- what events send on the connection, joined
unfoldable pub sent_on : ℕ → Machine → List Event → List ℕ
sent_on id m [] = []
sent_on id m (e ∷ es) = sent_by id m e ++ sent_on id (step m e).1 es

-- what is sent of an object that is shown
abbrev pub line_of : Shown → List ℕ
line_of (Added tree) = event_chunk (type_of (Added tree)) tree
line_of (Modified tree) = event_chunk (type_of (Modified tree)) tree
line_of (Deleted tree) = event_chunk (type_of (Deleted tree)) tree
line_of Expired = []
line_of Refused = []

-- what is sent of objects, one after the other
unfoldable pub lines_of : List Shown → List ℕ
lines_of [] = []
lines_of (e ∷ es) = line_of e ++ lines_of es

-- ---- the laws

-- events are a run of the watch that the connection of a number shows: it was pumped in between while the window held,
-- it is the connection's watch still, and what was sent on the connection is what it has shown
pub record IsRun (id : ℕ) (m : Machine) (events : List Event) (w : PlainWatching) : Type 0 where
  pub between : IsBetween (run_on id m events) m (after m events)
  pub holds : HoldsOn (run_on id m events) m.changes m.store w.watch
  pub still : watch_on id (after m events) ≡ Some (record w { watch = watch_after (run_on id m events) m.changes m.store w.watch })
  pub sent : sent_on id m events ≡ lines_of (shown_over (run_on id m events) m.changes m.store w.watch)

-- events over which a connection shows a watch are a run of it
abbrev pub EventsAreARun : Type 0
EventsAreARun = (on : Bool) (table : List ResourceRow) (first : ℕ) (texts : List (List ℕ)) (before events : List Event) (id : ℕ) (w : PlainWatching) →
    let m : Machine = served on table first texts before in
    watch_on id m ≡ Some w → WatchesOn id m events → IsRun id m events w

-- what was sent of a watch from a revision on, on top of the list at that revision, is what is listed now, once
-- nothing is due any more
abbrev pub SentIsListed : Type 0
SentIsListed = (on : Bool) (table : List ResourceRow) (first : ℕ) (texts : List (List ℕ)) (before events : List Event) (id : ℕ) (w v : PlainWatching) (scope : WatchScope) (revision : ℕ) →
    let m : Machine = served on table first texts before in
    let n : Machine = after m events in
    watch_on id m ≡ Some w → w.watch ≡ started_at scope revision → WatchesOn id m events → watch_on id n ≡ Some v → still_due n.changes v.watch ≡ []
    → (shown : List Shown) × (sent_on id m events ≡ lines_of shown) × (all_on_top scope (list_at scope revision n.changes) shown ≡ list_of scope n)

-- what was sent of a watch that shows first what is listed, on top of nothing, is listed now, once nothing is due
abbrev pub FirstSentIsListed : Type 0
FirstSentIsListed = (on : Bool) (table : List ResourceRow) (first : ℕ) (texts : List (List ℕ)) (before events : List Event) (id : ℕ) (w v : PlainWatching) (scope : WatchScope) →
    let m : Machine = served on table first texts before in
    let n : Machine = after m events in
    watch_on id m ≡ Some w → w.watch ≡ started_now m.store scope → WatchesOn id m events → watch_on id n ≡ Some v → still_due n.changes v.watch ≡ []
    → (shown : List Shown) × (sent_on id m events ≡ lines_of shown) × (all_on_top scope [] shown ≡ list_of scope n)
