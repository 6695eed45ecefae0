use Rattle.std.proofs.Common.{◌≡◌, ◌++◌, take}
use Rattle.std.specs.List.{flat_map}
use Rattle.kapi_paths.specs.Steps.{named}
use Rattle.kapi_paths.proofs.steps.push_in_known.Given as goal

abbrev pub invariant-loop-place : goal.invariant-loop-place
invariant-loop-place l = l.list.items ≡ l.initial.list.items ++ flat_map (named l.kind l.names) (take l.place-index l.known.namespaces)
