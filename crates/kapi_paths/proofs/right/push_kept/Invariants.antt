use Rattle.std.proofs.Common.{◌≡◌, ◌++◌, map, take}
use Rattle.std.specs.List.{filter, flat_map}
use Rattle.kapi_paths.specs.Rights.{group_of, is_kept, row_of, rows_of}
use Rattle.kapi_paths.proofs.right.push_kept.Given as goal

abbrev pub invariant-loop-group : goal.invariant-loop-group
invariant-loop-group l =
    map row_of l.list.items ≡ map row_of l.initial.list.items ++ flat_map rows_of (filter (is_kept l.without) (map group_of (take l.group-index l.groups)))
