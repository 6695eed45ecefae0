use Rattle.std.proofs.Common.{◌≡◌, length}
use Rattle.kapi_policy.proofs.step.delete_all.Given as goal
use Rattle.kapi_policy.specs.Steps.{AreDeletions, after_changes}

abbrev pub invariant-loop-left : goal.invariant-loop-left
invariant-loop-left g l =
    AreDeletions l.left × (after_changes l.left (g.P.Policy.content l.policy) ≡ after_changes l.deletions (g.P.Policy.content l.initial.policy))

abbrev pub decreases-loop-left : goal.decreases-loop-left
decreases-loop-left g l = length l.left
