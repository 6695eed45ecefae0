use Rattle.std.proofs.Common.{◌≡◌, ◌++◌, take}
use Rattle.kapi_access.specs.Cells.{resources_of}
use Rattle.kapi_access.proofs.cells.push_resources.Given as goal

abbrev pub invariant-loop-resource : goal.invariant-loop-resource
invariant-loop-resource l = l.text.items ≡ l.initial.text.items ++ resources_of (take l.resource-index l.resources) l.group
