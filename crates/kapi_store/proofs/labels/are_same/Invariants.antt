use Rattle.std.proofs.Common.{◌≡◌, length}
use Rattle.kapi_store.specs.Private.Alike.{same_labels}
use Rattle.kapi_store.proofs.labels.are_same.Given as goal

abbrev pub invariant-loop-left : goal.invariant-loop-left
invariant-loop-left l = same_labels l.left l.right ≡ same_labels l.a l.b

abbrev pub decreases-loop-left : goal.decreases-loop-left
decreases-loop-left l = length l.left
