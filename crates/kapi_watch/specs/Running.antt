-- When a running watch refines the model's.
use Rattle.std.specs.Prelude.{◌≡◌, ◌≤◌, ◌<◌, false, List, ◌++◌, map, length, drop}
use Rattle.kapi_store.specs.Stored.{stored_tree}
use Rattle.kapi_store.specs.Plain.{Plain, PlainChange}
use Rattle.kapi_watch.specs.declared.watch.Cursor.{Cursor}
use Rattle.kapi_watch.specs.declared.watch.Watch.{Watch}
use Rattle.kapi_watch.specs.Shown.{Added}
use Rattle.kapi_watch.specs.Watches.{PlainWatch, shown_all, later, due}

-- a running watch, which has shown so many of the first objects and was not stopped, refines the model's watch: what is
-- due to the model's and was not shown is the rest of those objects, and what the changes after the position show
pub record RefinesWatch (r : Watch) (history : List PlainChange) (s : Plain) (w : PlainWatch) : Type 0 where
  pub scope : w.scope ≡ r.scope
  pub position : w.position ≡ r.position
  pub first : w.first ≡ map stored_tree r.first
  pub begun : r.told < length r.first → (w.shown ≡ r.told) × (w.position ≡ w.start)
  pub ended : length r.first ≤ r.told → length w.first ≤ w.shown
  pub rest : drop w.shown (due history w) ≡ map (λ tree. (w.start, Added tree)) (drop r.told w.first) ++ shown_all w.scope (later w.position history)
  pub within : w.shown ≤ length (due history w)
  pub known : w.start ≤ s.revision
  pub stood : w.position ≤ s.revision
  pub runs : r.stopped ≡ false

-- a running watch that was moved to a place
abbrev pub at_place : Watch → Cursor → Watch
at_place r place = record r { told = place.told; position = place.position }

-- a running watch that has shown nothing yet, as the model's
abbrev pub watch_data : Watch → PlainWatch
watch_data r = record { scope = r.scope; first = map stored_tree r.first; start = r.position; shown = r.told; position = r.position }

-- a running watch has shown nothing, is at a revision that was reached, and was not stopped
abbrev pub IsFresh : Plain → Watch → Type 0
IsFresh s r = (r.told ≡ 0) × (r.position ≤ s.revision) × (r.stopped ≡ false)

-- a fresh running watch refines its own data
abbrev pub StandsAtFirst : Type 0
StandsAtFirst = (r : Watch) (history : List PlainChange) (s : Plain) → IsFresh s r → RefinesWatch r history s (watch_data r)
