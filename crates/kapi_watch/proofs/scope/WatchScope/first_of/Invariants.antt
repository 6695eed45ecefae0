use Rattle.std.proofs.Common.{◌≡◌, ◌-◌, map, drop, slice_get}
use Rattle.std.specs.List.{filter_map}
use Rattle.kapi_store.specs.Lent.{changes_of}
use Rattle.kapi_store.specs.Plain.{plain_change}
use Rattle.kapi_watch.specs.Shown.{shown_of}
use Rattle.kapi_watch.proofs.scope.WatchScope.first_of.Given as goal

abbrev pub invariant-loop-from : goal.invariant-loop-from
invariant-loop-from l =
    slice_get (filter_map (shown_of l.self) (map plain_change (drop l.from (changes_of l.changes)))) 0
    ≡ slice_get (filter_map (shown_of l.self) (map plain_change (changes_of l.changes))) 0

abbrev pub decreases-loop-from : goal.decreases-loop-from
decreases-loop-from l = l.count - l.from
