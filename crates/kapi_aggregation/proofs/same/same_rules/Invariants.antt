use Rattle.std.proofs.Common.{◌≡◌, length}
use Rattle.kapi_aggregation.specs.Unions.{same_rules}
use Rattle.kapi_aggregation.proofs.same.same_rules.Given as goal

abbrev pub invariant-loop-left : goal.invariant-loop-left
invariant-loop-left l = same_rules l.left l.right ≡ same_rules l.a l.b

abbrev pub decreases-loop-left : goal.decreases-loop-left
decreases-loop-left l = length l.left
