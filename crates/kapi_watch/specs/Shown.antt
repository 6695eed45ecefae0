-- What one change shows to a watch of some objects (Kubernetes, 'Efficient detection of changes').
use Rattle.std.specs.Prelude.{ℕ, Option, None, Some, if◌then◌else◌, option_map}
use Rattle.serde_json.specs.Data.{Data}
use Rattle.kapi_store.specs.Gone.{at_version}
use Rattle.kapi_store.specs.Stored.{stored_tree}
use Rattle.kapi_store.specs.declared.key.Key.{Key}
use Rattle.kapi_store.specs.Listing.{is_listed}
use Rattle.kapi_store.specs.Plain.{PlainChange}
use Rattle.kapi_watch.specs.declared.event.Event.{Event}
use Rattle.kapi_watch.specs.declared.event.Removed.{Removed}
use Rattle.kapi_watch.specs.declared.event.Event.TheVariants as event
use Rattle.kapi_watch.specs.declared.scope.ShownChange.{ShownChange}
use Rattle.kapi_watch.specs.declared.scope.WatchScope.{WatchScope}

-- what a watch shows: an object as it was created, or came to be selected; as it was changed; as it last was; or its
-- end, since changes that it did not show may be kept no longer, or since its identity may not watch any more
pub data Shown : Type 0 where
  Added : Data → Shown
  Modified : Data → Shown
  Deleted : Data → Shown
  Expired : Shown
  Refused : Shown

-- the tree, if there is one that the watch selects
abbrev pub selected : WatchScope → Key → Option Data → Option Data
selected s k None = None
selected s k (Some tree) = if is_listed s.row s.namespace s.selector s.name k tree then Some tree else None

-- what is shown of a change at a revision, by the selected object before it and the selected object after it
abbrev pub shown_by : ℕ → Option Data → Option Data → Option Shown
shown_by revision None None = None
shown_by revision None (Some new) = Some (Added new)
shown_by revision (Some old) (Some new) = Some (Modified new)
shown_by revision (Some old) None = Some (Deleted (at_version revision old))

-- what a watch shows of a change, if anything, with the change's revision
unfoldable pub shown_of : WatchScope → PlainChange → Option (ℕ × Shown)
shown_of s c = option_map (λ e. (c.revision, e)) (shown_by c.revision (selected s c.key c.old) (selected s c.key c.new))

-- an object that goes, at the version of its removal
abbrev pub removed_tree : Removed → Data
removed_tree r = at_version r.revision (stored_tree r.object.now)

-- an event as data
abbrev pub event_of : Event → Shown
event_of (event.Added o) = Added (stored_tree o.now)
event_of (event.Modified o) = Modified (stored_tree o.now)
event_of (event.Deleted r) = Deleted (removed_tree r)
event_of event.Expired = Expired
event_of event.Refused = Refused

-- an event with its revision, as data
abbrev pub found_of : ShownChange → ℕ × Shown
found_of f = (f.revision, event_of f.event)
