-- What the events of a watch make of a list, beside the list of the store.
use Rattle.std.specs.Prelude.{◌≡◌, ℕ, nat_le, List, [], ◌++◌, None, Some, codes, fold}
use Rattle.std.specs.List.{filter}
use Rattle.serde_json.specs.Data.{Data}
use Rattle.kapi_store.specs.Changes.{placed, placed_all}
use Rattle.kapi_store.specs.Listing.{listed_trees}
use Rattle.kapi_store.specs.Plain.{Plain, PlainChange, RefinesPlain, plain_of, trees_left_by}
use Rattle.kapi_store.specs.UidAndVersion.{metadata_text}
use Rattle.kapi_store.specs.State.{State}
use Rattle.kapi_store.specs.declared.key.Key.{Key}
use Rattle.kapi_watch.specs.declared.scope.WatchScope.{WatchScope}
use Rattle.kapi_watch.specs.Histories.{IsHistory}
use Rattle.kapi_watch.specs.Shown.{Shown, Added, Modified, Deleted, Expired, Refused}
use Rattle.kapi_watch.specs.Watches.{started_at, started_now}
use Rattle.kapi_watch.specs.Runs.{Step, HoldsOn, history_after, watch_after, shown_over, still_due}

-- the objects after some changes
abbrev pub objects_after : List PlainChange → List (Key × Data)
objects_after history = placed_all (trees_left_by history) []

-- the changes up to a revision
abbrev pub up_to : ℕ → List PlainChange → List PlainChange
up_to revision cs = filter (λ c. nat_le c.revision revision) cs

-- the list of the objects that are selected, in the order of their keys
abbrev pub listed : WatchScope → List (Key × Data) → List (Key × Data)
listed scope os = listed_trees scope.row scope.namespace scope.selector scope.name os

-- the list at a revision of a history
abbrev pub list_at : WatchScope → ℕ → List PlainChange → List (Key × Data)
list_at scope revision history = listed scope (objects_after (up_to revision history))

-- the list now, after all changes of a history
abbrev pub list_now : WatchScope → List PlainChange → List (Key × Data)
list_now scope history = listed scope (objects_after history)

-- the place of a tree in a list of the scope's resource: by the namespace and the name in its metadata
abbrev pub place_in : WatchScope → Data → Key
place_in scope tree = record {
  group = scope.row.group;
  resource = scope.row.plural;
  namespace = metadata_text (codes "namespace") tree;
  name = metadata_text (codes "name") tree;
}

-- an event on top of a list: an added or modified object is put at its place, a deleted one is taken away
abbrev pub on_top : WatchScope → List (Key × Data) → Shown → List (Key × Data)
on_top scope list (Added tree) = placed (place_in scope tree) (Some tree) list
on_top scope list (Modified tree) = placed (place_in scope tree) (Some tree) list
on_top scope list (Deleted tree) = placed (place_in scope tree) None list
on_top scope list Expired = list
on_top scope list Refused = list

-- events on top of a list, one after the other
abbrev pub all_on_top : WatchScope → List (Key × Data) → List Shown → List (Key × Data)
all_on_top scope list events = fold (on_top scope) list events

-- what is due to a watch from a revision on, on top of the list at that revision, is the list now
abbrev pub DueRebuildsList : Type 0
DueRebuildsList = (first : ℕ) (h : List PlainChange) (scope : WatchScope) (revision : ℕ) → IsHistory first h
    → all_on_top scope (list_at scope revision h) (still_due h (started_at scope revision)) ≡ list_now scope h

-- what is due to a watch that was started on a store and shows first what was listed then is the list now, on top of
-- nothing and whatever was changed since
abbrev pub FirstRebuildsList : Type 0
FirstRebuildsList = (store : State) (h more : List PlainChange) (s : Plain) (scope : WatchScope) → RefinesPlain store h s → IsHistory s.first (h ++ more)
    → all_on_top scope [] (still_due (h ++ more) (started_now s scope)) ≡ list_now scope (h ++ more)

-- if nothing is due any more to a watch from a revision on, what it has shown while the window holds is the list now
-- on top of the list at that revision
abbrev pub ShownRebuildsList : Type 0
ShownRebuildsList = (first : ℕ) (ts : List Step) (h : List PlainChange) (s : Plain) (scope : WatchScope) (revision : ℕ) → IsHistory first (history_after ts h)
    → HoldsOn ts h s (started_at scope revision) → still_due (history_after ts h) (watch_after ts h s (started_at scope revision)) ≡ []
    → all_on_top scope (list_at scope revision (history_after ts h)) (shown_over ts h s (started_at scope revision)) ≡ list_now scope (history_after ts h)

-- where nothing is due any more to a watch that shows first what is listed, what it has shown while the window holds is
-- the list now on top of nothing
abbrev pub FirstShownRebuildsList : Type 0
FirstShownRebuildsList = (store : State) (ts : List Step) (h : List PlainChange) (s : Plain) (scope : WatchScope) → RefinesPlain store h s → IsHistory s.first (history_after ts h)
    → HoldsOn ts h s (started_now s scope) → still_due (history_after ts h) (watch_after ts h s (started_now s scope)) ≡ []
    → all_on_top scope [] (shown_over ts h s (started_now s scope)) ≡ list_now scope (history_after ts h)

-- the list now is the list of a store that refines the history
abbrev pub StoreShowsTheList : Type 0
StoreShowsTheList = (store : State) (h : List PlainChange) (s : Plain) (scope : WatchScope) → RefinesPlain store h s → list_now scope h ≡ listed scope (plain_of store).objects

-- the list at a revision: what the store showed while that revision was the current one, whatever was changed since
abbrev pub StoreShowedTheList : Type 0
StoreShowedTheList = (store : State) (h more : List PlainChange) (s : Plain) (scope : WatchScope) → RefinesPlain store h s → IsHistory s.first (h ++ more)
    → list_at scope store.revision (h ++ more) ≡ listed scope (plain_of store).objects
