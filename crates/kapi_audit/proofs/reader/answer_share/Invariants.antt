use Rattle.std.proofs.Common.{◌≡◌}
use Rattle.kapi_audit.specs.Answers.{answer_of}
use Rattle.kapi_publishing.specs.Steps.{after}
use Rattle.kapi_audit.proofs.Shared.{Shared}
use Rattle.kapi_audit.proofs.reader.answer_share.Given as goal

abbrev pub invariant-loop-question : goal.invariant-loop-question
invariant-loop-question g l = (l.seat ≡ l.initial.seat) × Shared (answer_of l.row (after l.initial.seat.opening l.initial.seat.seen)) l.fn.reader.number l.others l.lines l.question l.wait l.answers.items
