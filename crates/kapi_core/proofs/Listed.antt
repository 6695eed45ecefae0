-- What a watch of the machine shows makes its list.
use Rattle.std.proofs.Common.{◌≡◌, ℕ, Bool, List, [], ◌++◌, sym, ap, ◌∙◌, subst}
use Rattle.kapi_model.specs.declared.row.ResourceRow.{ResourceRow}
use Rattle.kapi_store.specs.Plain.{PlainChange}
use Rattle.kapi_watch.proofs.Lists.{counted_first_is_the_list, counted_first_shown, counted_showed, due_rebuilds_list, shown_rebuilds_list}
use Rattle.kapi_watch.specs.Histories.{IsHistory}
use Rattle.kapi_watch.specs.Lists.{all_on_top, list_at, list_now, listed}
use Rattle.kapi_watch.specs.Runs.{HoldsOn, Step, history_after, shown_over, still_due, watch_after}
use Rattle.kapi_watch.specs.Watches.{started_at, started_now}
use Rattle.kapi_watch.specs.declared.scope.WatchScope.{WatchScope}
use Rattle.kapi_core.proofs.Histories.{HasHistory, events_go_on, events_grow, served_has}
use Rattle.kapi_core.specs.Histories.{DueIsListed, FirstIsListed, FirstShownIsListed, ListedThen, ShownIsListed, list_of, served}
use Rattle.kapi_core.specs.Machine.{Machine, after}
use Rattle.kapi_core.specs.declared.event.Event.{Event}

-- the list now of all its changes is what a machine lists
now_is_listed : (first : ℕ) (m : Machine) (scope : WatchScope) → HasHistory first m → list_now scope m.changes ≡ list_of scope m
now_is_listed first m scope h = ap (listed scope) (sym h.objects)

-- a machine has its history from its own first revision on
own_history : (first : ℕ) (m : Machine) → HasHistory first m → HasHistory m.store.first m
own_history first m h = let P : ℕ → Type 0 = λ f. HasHistory f m in subst P (sym h.begins) h

pub due_is_listed : DueIsListed
due_is_listed on table first texts events scope revision =
    let m : Machine = served on table first texts events in
    let h : HasHistory first m = served_has on table first texts events in
    due_rebuilds_list first m.changes scope revision h.history ∙ now_is_listed first m scope h

module _ (m : Machine) (events : List Event) (h : HasHistory m.store.first m) where
  abbrev n : Machine
  n = after m events

  abbrev more : List PlainChange
  more = (events_grow m.store.first m events h).more

  grown : n.changes ≡ m.changes ++ more
  grown = (events_grow m.store.first m events h).told

  goes : HasHistory m.store.first n
  goes = events_go_on m.store.first m events h

  grown_history : IsHistory m.store.first (m.changes ++ more)
  grown_history = let P : List PlainChange → Type 0 = IsHistory m.store.first in subst P grown goes.history

  then_listed : (scope : WatchScope) → list_at scope m.store.revision n.changes ≡ list_of scope m
  then_listed scope = ap (list_at scope m.store.revision) grown ∙ counted_showed m.changes more m.store scope h.objects h.counted grown_history

  first_listed : (scope : WatchScope) → all_on_top scope [] (still_due n.changes (started_now m.store scope)) ≡ list_of scope n
  first_listed scope =
      let P : List PlainChange → Type 0 = λ cs. all_on_top scope [] (still_due cs (started_now m.store scope)) ≡ list_now scope cs in
      subst P (sym grown) (counted_first_is_the_list m.changes more m.store scope h.objects h.counted grown_history) ∙ now_is_listed m.store.first n scope goes

  module _ (ts : List Step) (between : history_after ts m.changes ≡ n.changes) where
    between_history : IsHistory m.store.first (history_after ts m.changes)
    between_history = let P : List PlainChange → Type 0 = IsHistory m.store.first in subst P (sym between) goes.history

    shown_listed : (scope : WatchScope) (revision : ℕ) → HoldsOn ts m.changes m.store (started_at scope revision)
        → still_due n.changes (watch_after ts m.changes m.store (started_at scope revision)) ≡ []
        → all_on_top scope (list_at scope revision n.changes) (shown_over ts m.changes m.store (started_at scope revision)) ≡ list_of scope n
    shown_listed scope revision holds none =
        let P : List PlainChange → Type 0 = λ cs. still_due cs (watch_after ts m.changes m.store (started_at scope revision)) ≡ [] in
        let Q : List PlainChange → Type 0 = λ cs. all_on_top scope (list_at scope revision cs) (shown_over ts m.changes m.store (started_at scope revision)) ≡ list_now scope cs in
        subst Q between (shown_rebuilds_list m.store.first ts m.changes m.store scope revision between_history holds (subst P (sym between) none)) ∙ now_is_listed m.store.first n scope goes

    first_shown_listed : (scope : WatchScope) → HoldsOn ts m.changes m.store (started_now m.store scope)
        → still_due n.changes (watch_after ts m.changes m.store (started_now m.store scope)) ≡ []
        → all_on_top scope [] (shown_over ts m.changes m.store (started_now m.store scope)) ≡ list_of scope n
    first_shown_listed scope holds none =
        let P : List PlainChange → Type 0 = λ cs. still_due cs (watch_after ts m.changes m.store (started_now m.store scope)) ≡ [] in
        let Q : List PlainChange → Type 0 = λ cs. all_on_top scope [] (shown_over ts m.changes m.store (started_now m.store scope)) ≡ list_now scope cs in
        subst Q between (counted_first_shown ts m.changes m.store scope h.objects h.counted between_history holds (subst P (sym between) none)) ∙ now_is_listed m.store.first n scope goes

-- the machine that has begun, loaded and made some events
served_own : (on : Bool) (table : List ResourceRow) (first : ℕ) (texts : List (List ℕ)) (before : List Event) → HasHistory (served on table first texts before).store.first (served on table first texts before)
served_own on table first texts before = own_history first (served on table first texts before) (served_has on table first texts before)

pub listed_then : ListedThen
listed_then on table first texts before events scope = then_listed (served on table first texts before) events (served_own on table first texts before) scope

pub first_is_listed : FirstIsListed
first_is_listed on table first texts before events scope = first_listed (served on table first texts before) events (served_own on table first texts before) scope

pub shown_is_listed : ShownIsListed
shown_is_listed on table first texts before events ts scope revision between holds none =
    shown_listed (served on table first texts before) events (served_own on table first texts before) ts between scope revision holds none

pub first_shown_is_listed : FirstShownIsListed
first_shown_is_listed on table first texts before events ts scope between holds none =
    first_shown_listed (served on table first texts before) events (served_own on table first texts before) ts between scope holds none
