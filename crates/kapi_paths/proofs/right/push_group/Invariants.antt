use Rattle.std.proofs.Common.{◌≡◌, ◌++◌, map, take}
use Rattle.std.specs.List.{flat_map}
use Rattle.kapi_paths.specs.Rights.{group_of, resource_of, row_of, rows_on}
use Rattle.kapi_paths.proofs.right.push_group.Given as goal

abbrev pub invariant-loop-on : goal.invariant-loop-on
invariant-loop-on l = map row_of l.list.items ≡ map row_of l.initial.list.items ++ flat_map (rows_on (group_of l.group)) (map resource_of (take l.on-index l.group.resources.now))
