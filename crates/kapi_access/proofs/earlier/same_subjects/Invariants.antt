use Rattle.std.proofs.Common.{◌≡◌, length}
use Rattle.kapi_access.specs.Earlier.{same_subjects}
use Rattle.kapi_access.proofs.earlier.same_subjects.Given as goal

abbrev pub invariant-loop-left : goal.invariant-loop-left
invariant-loop-left l = same_subjects l.left l.right ≡ same_subjects l.a l.b

abbrev pub decreases-loop-left : goal.decreases-loop-left
decreases-loop-left l = length l.left
