use Rattle.std.proofs.Common.{◌≡◌, ◌++◌, map, take}
use Rattle.kapi_escalation.specs.Impersonation.{group_question}
use Rattle.kapi_escalation.proofs.question.push_groups.Given as goal

abbrev pub invariant-loop-group : goal.invariant-loop-group
invariant-loop-group l = l.questions.items ≡ l.initial.questions.items ++ map group_question (take l.group-index l.groups)
