use Rattle.std.proofs.Common.{◌≡◌, length}
use Rattle.kapi_store.specs.Private.Cut.{is_near}
use Rattle.kapi_store.proofs.cut.is_near.Given as goal

abbrev pub invariant-loop-left : goal.invariant-loop-left
invariant-loop-left l = is_near l.left l.right ≡ is_near l.a l.b

abbrev pub decreases-loop-left : goal.decreases-loop-left
decreases-loop-left l = length l.left
