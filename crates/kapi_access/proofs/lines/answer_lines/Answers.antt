use Rattle.std.proofs.Common.{ap, arith, subst, sym, ◌++◌, ◌∙◌, ◌+◌}
use Rattle.kapi_access.proofs.Behind.{Answering, answering_all, answering_bad, answering_more, answering_none}
use Rattle.kapi_access.proofs.lines.answer_lines.Goals as goal

pub loop-line-init : goal.loop-line-init
loop-line-init g c =
    subst (λ t. Answering c.args.form (g.P.Policy.content c.args.policy.now) c.args.lines.now 0 t) (sym c.new-text.ensures.items)
    (answering_none c.args.form (g.P.Policy.content c.args.policy.now) c.args.lines.now)

pub loop-line-preserved : goal.loop-line-preserved
loop-line-preserved g c =
    let longer = c.in_ok-extend_from_slice-in-Ok.ensures.items ∙ ap (λ t. c.loop-line.text.items ++ t) c.as_slice.ensures.value in
    subst (λ t. Answering c.args.form (g.P.Policy.content c.args.policy.now) c.args.lines.now (c.loop-line.line-index + 1) t) (sym longer)
    (answering_more c.args.form (g.P.Policy.content c.args.policy.now) c.args.lines.now c.loop-line.line-index _ c.loop-line.text.items _ c.loop-line-test.true c.loop-line.invariant c.in-Ok.ensures)

pub returns-in-Err : goal.returns-in-Err
returns-in-Err g c =
    answering_bad c.args.form (g.P.Policy.content c.args.policy.now) c.args.lines.now c.loop-line.line-index _ c.loop-line.text.items _ c.loop-line-test.true c.loop-line.invariant c.in-Err.ensures

pub returns : goal.returns
returns g c = answering_all c.args.form (g.P.Policy.content c.args.policy.now) c.args.lines.now c.loop-line.line-index c.loop-line.text.items (omega (arith, c.loop-line-test.false)) c.loop-line.invariant
