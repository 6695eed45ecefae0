use Rattle.std.proofs.Common.{◌≡◌, ◌++◌, map, take}
use Rattle.kapi_core.specs.Table.{row_of}
use Rattle.kapi_core.proofs.programs.push_rows.Given as goal

abbrev pub invariant-loop-resource : goal.invariant-loop-resource
invariant-loop-resource l = l.rows.items ≡ l.initial.rows.items ++ map row_of (take l.resource-index l.resources)
