use Rattle.std.proofs.Common.{◌≡◌, ◌++◌, map, take}
use Rattle.std.specs.List.{flat_map}
use Rattle.kapi_paths.specs.Rights.{row_of}
use Rattle.kapi_paths.specs.Steps as steps
use Rattle.kapi_paths.proofs.steps.push_by_rule.Given as goal

abbrev pub invariant-loop-right : goal.invariant-loop-right
invariant-loop-right l = l.list.items ≡ l.initial.list.items ++ flat_map (steps.by_right l.known l.place l.rule) (map row_of (take l.right-index l.rights))
