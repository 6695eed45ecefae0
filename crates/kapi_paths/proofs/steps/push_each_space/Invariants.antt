use Rattle.std.proofs.Common.{◌≡◌, ◌++◌, take}
use Rattle.kapi_paths.specs.Steps.{each_space}
use Rattle.kapi_paths.proofs.steps.push_each_space.Given as goal

abbrev pub invariant-loop-place : goal.invariant-loop-place
invariant-loop-place l = l.list.items ≡ l.initial.list.items ++ each_space l.kind (take l.place-index l.places)
