-- Watches as data: what is due to a watch of all the changes ever, and what each pump shows of it.
use Rattle.std.specs.Prelude.{ℕ, ◌+◌, nat_lt, ◌==◌, Bool, not, ◌&&◌, if◌then◌else◌, List, [], ◌++◌, Option, None, Some, Result, Ok, Err, map, length, option_map, slice_get}
use Rattle.std.specs.List.{filter, filter_map}
use Rattle.serde_json.specs.Data.{Data}
use Rattle.kapi_text.specs.ResultIs.{◌>>=◌}
use Rattle.kapi_store.specs.Listing.{listed_trees}
use Rattle.kapi_store.specs.Plain.{Plain, PlainChange, window_start}
use Rattle.kapi_watch.specs.declared.error.WatchError.{WatchError}
use Rattle.kapi_watch.specs.declared.error.WatchError.TheVariants as error
use Rattle.kapi_watch.specs.declared.scope.WatchScope.{WatchScope}
use Rattle.kapi_watch.specs.Shown.{Shown, Added, Expired, shown_of}

-- a watch: what it selects, the objects that are shown first, the revision at which it started, how many events it
-- has shown, and the revision up to which it has looked
pub record PlainWatch : Type 0 where
  pub scope : WatchScope
  pub first : List Data
  pub start : ℕ
  pub shown : ℕ
  pub position : ℕ

-- why no watch starts: changes after the revision may be kept no longer, or it lies above the current one
pub data WatchFault : Type 0 where
  TooOld : WatchFault
  TooLarge : WatchFault

-- the fault that an error reports
abbrev pub fault_of : WatchError → Option WatchFault
fault_of error.TooOld = Some TooOld
fault_of error.TooLarge = Some TooLarge
fault_of error.Memory = None

-- some changes after a revision may be kept no longer
abbrev pub is_gone : Plain → ℕ → Bool
is_gone s revision = nat_lt revision (window_start s)

-- a watch of what is listed now, and of each change after it
abbrev pub started_now : Plain → WatchScope → PlainWatch
started_now s scope = record {
  scope = scope;
  first = map (λ e. e.1) (listed_trees scope.row scope.namespace scope.selector scope.name s.objects);
  start = s.revision;
  shown = 0;
  position = s.revision;
}

-- a watch of each change after a revision
abbrev pub started_at : WatchScope → ℕ → PlainWatch
started_at scope revision = record { scope = scope; first = []; start = revision; shown = 0; position = revision }

-- whether a watch can start from a revision on; 0 asks for what is listed now
unfoldable pub startable : Plain → ℕ → Result (Unit {0}) WatchFault
startable s revision =
    if revision == 0 then Ok tt else
    if nat_lt s.revision revision then Err TooLarge else
    if is_gone s revision then Err TooOld else
    Ok tt

-- a watch from a revision on; 0 asks for what is listed now
unfoldable pub watch_from : Plain → WatchScope → ℕ → PlainWatch
watch_from s scope revision = if revision == 0 then started_now s scope else started_at scope revision

-- a watch from a revision on, or why there can be none
abbrev pub started : Plain → WatchScope → ℕ → Result PlainWatch WatchFault
started s scope revision = do
  u ← startable s revision
  Ok (watch_from s scope revision)

-- what changes show to a watch, each with its revision
abbrev pub shown_all : WatchScope → List PlainChange → List (ℕ × Shown)
shown_all scope cs = filter_map (shown_of scope) cs

-- the changes after a revision
abbrev pub later : ℕ → List PlainChange → List PlainChange
later revision cs = filter (λ c. nat_lt revision c.revision) cs

-- what is due to a watch: an event for each object that is shown first, and one for each change after its start that
-- it shows
unfoldable pub due : List PlainChange → PlainWatch → List (ℕ × Shown)
due history w = map (λ tree. (w.start, Added tree)) w.first ++ shown_all w.scope (later w.start history)

-- a watch cannot go on: the objects that are shown first have been shown, and changes after its position may be gone
unfoldable pub is_expired : Plain → PlainWatch → Bool
is_expired s w = not (nat_lt w.shown (length w.first)) && is_gone s w.position

-- what a pump shows: that the watch cannot go on, or the next of what is due, or nothing
abbrev pub pumped : List PlainChange → Plain → PlainWatch → Option Shown
pumped history s w = if is_expired s w then Some Expired else option_map (λ e. e.1) (slice_get (due history w) w.shown)

-- the watch that has shown one event more, at its revision; with nothing to show, it has reached the current one
abbrev pub moved : Plain → PlainWatch → Option (ℕ × Shown) → PlainWatch
moved s w None = record w { position = s.revision }
moved s w (Some e) = record w { shown = w.shown + 1; position = e.0 }

-- the watch after a pump; one that cannot go on stays where it is
abbrev pub after_pump : List PlainChange → Plain → PlainWatch → PlainWatch
after_pump history s w = if is_expired s w then w else moved s w (slice_get (due history w) w.shown)
