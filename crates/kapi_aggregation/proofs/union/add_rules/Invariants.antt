use Rattle.std.proofs.Common.{◌≡◌, ◌++◌}
use Rattle.kapi_aggregation.proofs.union.add_rules.Given as goal

abbrev pub invariant-loop-other : goal.invariant-loop-other
invariant-loop-other l = l.rules.items ≡ l.initial.rules.items ++ l.yielded
