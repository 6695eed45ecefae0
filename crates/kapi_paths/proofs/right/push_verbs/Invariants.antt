use Rattle.std.proofs.Common.{◌≡◌, ◌++◌, map, take}
use Rattle.kapi_paths.specs.Rights.{group_of, resource_of, row_of, rows_on}
use Rattle.kapi_paths.proofs.right.push_verbs.Given as goal

abbrev pub invariant-loop-verb : goal.invariant-loop-verb
invariant-loop-verb l =
    map row_of l.list.items ≡ map row_of l.initial.list.items
    ++ rows_on (record (group_of l.group) { verbs = map (λ v. v.now) (take l.verb-index l.group.verbs.now) }) (resource_of l.on)
