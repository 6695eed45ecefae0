use Rattle.std.proofs.Common.{◌≡◌, ◌++◌, []}
use Rattle.std.specs.List.{fold}
use Rattle.std.specs.Vec.Iter.{into_iter_items}
use Rattle.kapi_aggregation.specs.Keyed.{picked}
use Rattle.kapi_aggregation.specs.Unions.{with_rule}
use Rattle.kapi_aggregation.proofs.union.each_once.Given as goal

abbrev pub invariant-loop-rule : goal.invariant-loop-rule
invariant-loop-rule l = l.kept.items ++ picked (into_iter_items l.first) (into_iter_items l.rule-iterator) ≡ fold with_rule [] l.fn.rules.items
