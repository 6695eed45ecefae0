use Rattle.std.proofs.Common.{◌≡◌, take}
use Rattle.kapi_escalation.specs.Impersonation.{denied}
use Rattle.kapi_escalation.proofs.question.denied.Given as goal

abbrev pub invariant-loop-question : goal.invariant-loop-question
invariant-loop-question g l = l.points.items ≡ denied (g.P.Policy.content l.policy) l.identity (take l.question-index l.questions)
