use Rattle.std.proofs.Common.{◌≡◌, length}
use Rattle.kapi_access.specs.Risks.{goes_on_after}
use Rattle.kapi_access.proofs.risky.goes_on_after.Given as goal

abbrev pub invariant-loop-left : goal.invariant-loop-left
invariant-loop-left l = goes_on_after l.left l.rest ≡ goes_on_after l.start l.text

abbrev pub decreases-loop-left : goal.decreases-loop-left
decreases-loop-left l = length l.left
