use Rattle.std.proofs.Common.{◌≡◌, map, take}
use Rattle.kapi_index.specs.Compiled.{compiled}
use Rattle.kapi_index.proofs.rules.compile_all.Given as goal

abbrev pub invariant-loop-rule : goal.invariant-loop-rule
invariant-loop-rule l = l.list.items ≡ map compiled (take l.rule-index l.rules)
