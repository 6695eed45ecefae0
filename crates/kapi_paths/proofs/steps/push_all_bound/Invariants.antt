use Rattle.std.proofs.Common.{◌≡◌, ◌++◌, take}
use Rattle.std.specs.List.{flat_map}
use Rattle.kapi_paths.specs.Steps as steps
use Rattle.kapi_paths.proofs.steps.push_all_bound.Given as goal

abbrev pub invariant-loop-position : goal.invariant-loop-position
invariant-loop-position l = l.list.items ≡ l.initial.list.items ++ flat_map (steps.bound l.identity) (take l.position l.bindings)
