-- Histories of machines: all the changes ever of a machine, and the lists that they make.
use Rattle.std.specs.Prelude.{◌≡◌, ℕ, Bool, List, [], ◌∷◌, Result, Ok, Err}
use Rattle.serde_json.specs.Data.{Data}
use Rattle.kapi_aggregation.specs.Rewriting.{rewriting}
use Rattle.kapi_aggregation.specs.declared.turn.Turn.{Turn}
use Rattle.kapi_answer.specs.Histories.{AreNamed}
use Rattle.kapi_answer.specs.Load.{LoadFault, loads}
use Rattle.kapi_model.specs.declared.row.ResourceRow.{ResourceRow}
use Rattle.kapi_store.specs.Plain.{Plain, PlainChange}
use Rattle.kapi_store.specs.declared.key.Key.{Key}
use Rattle.kapi_watch.specs.Histories.{IsHistory, IsReplacement}
use Rattle.kapi_watch.specs.Lists.{all_on_top, list_at, listed}
use Rattle.kapi_watch.specs.Runs.{HoldsOn, Step, history_after, shown_over, still_due, watch_after}
use Rattle.kapi_watch.specs.Watches.{started_at, started_now}
use Rattle.kapi_watch.specs.declared.scope.WatchScope.{WatchScope}
use Rattle.kapi_core.specs.Machine.{Machine, after, changed, with_rechecks}
use Rattle.kapi_core.specs.Opening.{opening}
use Rattle.kapi_core.specs.Running.{Running}
use Rattle.kapi_core.specs.Refines.{Refines}
use Rattle.kapi_core.specs.declared.event.Event.{Event}

-- the machine after the changes of a load, if it is not refused
abbrev pub loaded_if : Machine → Result (List PlainChange) LoadFault → Machine
loaded_if m (Ok changes) = changed changes m
loaded_if m (Err fault) = m

-- the machine after objects were loaded, one after the other
unfoldable pub loaded : Machine → List (List ℕ) → Machine
loaded m [] = m
loaded m (text ∷ texts) = loaded (loaded_if m (loads m.store text)) texts

-- the machine that has begun, loaded some objects, was set to recheck the rights of watches or not, and took events
abbrev pub served : Bool → List ResourceRow → ℕ → List (List ℕ) → List Event → Machine
served on table first texts events = after (with_rechecks on (loaded (opening table first) texts)) events

-- all the changes ever of a served machine are a history
abbrev pub ServedIsAHistory : Type 0
ServedIsAHistory = (on : Bool) (table : List ResourceRow) (first : ℕ) (texts : List (List ℕ)) (events : List Event) → IsHistory first (served on table first texts events).changes

-- a turn changes what a replacement makes
abbrev pub TurnsReplace : Type 0
TurnsReplace = (turn : Turn) (s : Plain) (cs : List PlainChange) → AreNamed s.objects → rewriting turn s ≡ Ok cs → IsReplacement s cs

-- if all the changes of a machine that a running one refines are a history, they still are after some events
abbrev pub EventsGoOn : Type 0
EventsGoOn = (core : Running) (m : Machine) (events : List Event) → Refines core m → IsHistory m.store.first m.changes → IsHistory m.store.first (after m events).changes

-- if all changes of a machine that a running one refines are a history, they still are after an object was loaded
abbrev pub LoadsGoOn : Type 0
LoadsGoOn = (core : Running) (m : Machine) (text : List ℕ) (cs : List PlainChange) → Refines core m → IsHistory m.store.first m.changes → loads m.store text ≡ Ok cs
    → IsHistory m.store.first (changed cs m).changes

-- ---- the lists of a machine

-- what the store of a machine lists
abbrev pub list_of : WatchScope → Machine → List (Key × Data)
list_of scope m = listed scope m.store.objects

-- the list at the revision of a machine is what it listed then, whatever events came after
abbrev pub ListedThen : Type 0
ListedThen = (on : Bool) (table : List ResourceRow) (first : ℕ) (texts : List (List ℕ)) (before events : List Event) (scope : WatchScope) →
    let m : Machine = served on table first texts before in
    list_at scope m.store.revision (after m events).changes ≡ list_of scope m

-- what is due to a watch from a revision on, on top of the list at that revision, is what is listed now
abbrev pub DueIsListed : Type 0
DueIsListed = (on : Bool) (table : List ResourceRow) (first : ℕ) (texts : List (List ℕ)) (events : List Event) (scope : WatchScope) (revision : ℕ) →
    let m : Machine = served on table first texts events in
    all_on_top scope (list_at scope revision m.changes) (still_due m.changes (started_at scope revision)) ≡ list_of scope m

-- what is due to a watch that shows first what was listed when it started, on top of nothing, is what is listed now
abbrev pub FirstIsListed : Type 0
FirstIsListed = (on : Bool) (table : List ResourceRow) (first : ℕ) (texts : List (List ℕ)) (before events : List Event) (scope : WatchScope) →
    let m : Machine = served on table first texts before in
    let n : Machine = after m events in
    all_on_top scope [] (still_due n.changes (started_now m.store scope)) ≡ list_of scope n

-- a watch was pumped in between, wherever, and what was changed is what the events changed
abbrev pub IsBetween : List Step → Machine → Machine → Type 0
IsBetween ts m n = history_after ts m.changes ≡ n.changes

-- what a watch from a revision on has shown while the window holds, on top of the list at that revision, is what is
-- listed now, once nothing is due any more
abbrev pub ShownIsListed : Type 0
ShownIsListed = (on : Bool) (table : List ResourceRow) (first : ℕ) (texts : List (List ℕ)) (before events : List Event) (ts : List Step) (scope : WatchScope) (revision : ℕ) →
    let m : Machine = served on table first texts before in
    let n : Machine = after m events in
    IsBetween ts m n → HoldsOn ts m.changes m.store (started_at scope revision) → still_due n.changes (watch_after ts m.changes m.store (started_at scope revision)) ≡ []
    → all_on_top scope (list_at scope revision n.changes) (shown_over ts m.changes m.store (started_at scope revision)) ≡ list_of scope n

-- what a watch that shows first what is listed has shown while the window holds, on top of nothing, is what is listed
-- now, once nothing is due any more
abbrev pub FirstShownIsListed : Type 0
FirstShownIsListed = (on : Bool) (table : List ResourceRow) (first : ℕ) (texts : List (List ℕ)) (before events : List Event) (ts : List Step) (scope : WatchScope) →
    let m : Machine = served on table first texts before in
    let n : Machine = after m events in
    IsBetween ts m n → HoldsOn ts m.changes m.store (started_now m.store scope) → still_due n.changes (watch_after ts m.changes m.store (started_now m.store scope)) ≡ []
    → all_on_top scope [] (shown_over ts m.changes m.store (started_now m.store scope)) ≡ list_of scope n
