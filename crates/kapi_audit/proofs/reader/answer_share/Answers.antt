use Rattle.std.proofs.Common.{◌∙◌, ap, arith, get_or}
use Rattle.kapi_publishing.specs.Boards.{Chair}
use Rattle.kapi_audit.specs.Answers.{answer_of}
use Rattle.kapi_publishing.specs.Steps.{after}
use Rattle.kapi_audit.proofs.Shared.{answered_at}
use Rattle.kapi_audit.proofs.Shares.{no_line}
use Rattle.kapi_audit.proofs.reader.answer_share.Goals as goal

pub loop-question-preserved : goal.loop-question-preserved
loop-question-preserved g c =
    let sits = c.loop-question.invariant.0 in
    let found = c.in_ok-answer.ensures.answer ∙ ap (λ (s : Chair). answer_of c.args.row.now (after s.opening s.seen) (get_or c.args.lines.now c.loop-question.question no_line).text.now) sits in (
      c.in_ok-answer.ensures.same ∙ sits,
      answered_at (answer_of c.args.row.now (after c.args.reader.seat.opening c.args.reader.seat.seen)) c.args.reader.number c.args.others c.args.lines.now c.loop-question.question c.loop-question.wait no_line c.loop-question.answers.items _ _ c.loop-question-test.true (omega (arith, c.if-wait-gt0.false)) c.loop-question.invariant.1 found c.in_ok-push.ensures,
    )
