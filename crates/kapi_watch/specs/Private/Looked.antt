-- What a watch finds among the changes once it has shown its first objects.
use Rattle.std.specs.Prelude.{ℕ, List, Option, None, Some, Result, Ok, Err, option_map, slice_get}
use Rattle.kapi_store.specs.declared.error.TooOld.{TooOld}
use Rattle.kapi_store.specs.Plain.{Plain, PlainChange}
use Rattle.kapi_watch.specs.declared.scope.ShownChange.{ShownChange}
use Rattle.kapi_watch.specs.declared.scope.WatchScope.{WatchScope}
use Rattle.kapi_watch.specs.Shown.{Shown, Expired, found_of}
use Rattle.kapi_watch.specs.Watches.{shown_all}

-- what was found, as data
abbrev pub looked : Result (Option ShownChange) TooOld → Result (Option (ℕ × Shown)) (Unit {0})
looked (Ok found) = Ok (option_map found_of found)
looked (Err e) = Err tt

-- what changes show first, if there are such
abbrev pub first_in : WatchScope → Result (List PlainChange) (Unit {0}) → Result (Option (ℕ × Shown)) (Unit {0})
first_in scope (Ok cs) = Ok (slice_get (shown_all scope cs) 0)
first_in scope (Err e) = Err e

-- the revision of a watch after the look: that of what was found, or the current one; if changes are gone, it stays
abbrev pub position_after : Plain → ℕ → Result (Option (ℕ × Shown)) (Unit {0}) → ℕ
position_after s position (Ok (Some e)) = e.0
position_after s position (Ok None) = s.revision
position_after s position (Err e) = position

-- what is shown of the look: what was found, or that the watch cannot go on
abbrev pub shown_in : Result (Option (ℕ × Shown)) (Unit {0}) → Option Shown
shown_in (Ok o) = option_map (λ e. e.1) o
shown_in (Err e) = Some Expired
