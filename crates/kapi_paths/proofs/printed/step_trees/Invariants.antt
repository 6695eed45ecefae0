use Rattle.std.proofs.Common.{◌≡◌, map, take}
use Rattle.serde_json.specs.View.{view}
use Rattle.kapi_paths.specs.Printed.{step_tree}
use Rattle.kapi_paths.proofs.printed.step_trees.Given as goal

abbrev pub invariant-loop-step : goal.invariant-loop-step
invariant-loop-step l = map view l.items.items ≡ map step_tree (take l.step-index l.steps)
