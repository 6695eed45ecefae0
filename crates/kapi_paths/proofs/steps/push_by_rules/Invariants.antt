use Rattle.std.proofs.Common.{◌≡◌, ◌++◌, map, take}
use Rattle.std.specs.List.{flat_map}
use Rattle.kapi_paths.specs.Rights.{row_of}
use Rattle.kapi_paths.specs.Steps as steps
use Rattle.kapi_paths.proofs.steps.push_by_rules.Given as goal

abbrev pub invariant-loop-rule : goal.invariant-loop-rule
invariant-loop-rule l = l.list.items ≡ l.initial.list.items ++ flat_map (λ rule. flat_map (steps.by_right l.known l.place rule) (map row_of l.rights)) (take l.rule-index l.rules)
