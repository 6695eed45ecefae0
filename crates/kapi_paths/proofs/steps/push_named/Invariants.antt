use Rattle.std.proofs.Common.{◌≡◌, ◌++◌, take}
use Rattle.kapi_paths.specs.Steps.{named}
use Rattle.kapi_paths.proofs.steps.push_named.Given as goal

abbrev pub invariant-loop-name : goal.invariant-loop-name
invariant-loop-name l = l.list.items ≡ l.initial.list.items ++ named l.kind (take l.name-index l.names) l.place
