use Rattle.std.proofs.Common.{take}
use Rattle.kapi_aggregation.proofs.Keyed.{Passed}
use Rattle.kapi_aggregation.proofs.union.first_places.Given as goal

abbrev pub invariant-loop-rule : goal.invariant-loop-rule
invariant-loop-rule l = Passed l.seen.keys l.first.items (take l.rule-index l.rules)
