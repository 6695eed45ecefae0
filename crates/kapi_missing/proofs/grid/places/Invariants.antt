use Rattle.std.proofs.Common.{◌≡◌}
use Rattle.kapi_missing.specs.Private.Grid.{ArePlaced, placed_items}
use Rattle.kapi_missing.specs.Private.Left.{items_in}
use Rattle.kapi_missing.proofs.grid.places.Given as goal

abbrev pub invariant-loop-part : goal.invariant-loop-part
invariant-loop-part l = (placed_items l.entries.items ≡ items_in l.yielded) × ArePlaced l.columns l.entries.items
