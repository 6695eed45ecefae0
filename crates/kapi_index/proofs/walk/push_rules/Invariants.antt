use Rattle.std.proofs.Common.{◌≡◌, ◌++◌, take}
use Rattle.kapi_index.proofs.walk.push_rules.Given as goal

abbrev pub invariant-loop-rule : goal.invariant-loop-rule
invariant-loop-rule l = l.list.items ≡ l.initial.list.items ++ take l.rule-index l.rules
