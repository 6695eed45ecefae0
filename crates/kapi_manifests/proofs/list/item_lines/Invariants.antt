use Rattle.std.proofs.Common.{◌≤◌}
use Rattle.kapi_manifests.specs.Places.{depth_of}
use Rattle.kapi_manifests.proofs.list.item_lines.Given as goal

abbrev pub invariant-loop-at : goal.invariant-loop-at
invariant-loop-at l = depth_of l.cursor.place ≤ l.at
