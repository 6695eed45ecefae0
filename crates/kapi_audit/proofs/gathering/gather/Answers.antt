use Rattle.std.proofs.Common.{arith, subst, sym, ap, ◌∙◌, ◌+◌, ◌++◌, map, option_map}
use Rattle.kapi_audit.proofs.Shares.{Gathering, gathered_all, gathered_bad, gathered_more}
use Rattle.kapi_audit.proofs.gathering.gather.Goals as goal

pub loop-line-preserved : goal.loop-line-preserved
loop-line-preserved c = λ answer others h.
    let longer = c.in_ok-extend_from_slice-in-Some.ensures.items ∙ ap (λ t. c.loop-line.text.items ++ t) c.as_slice.ensures in
    subst (λ t. Gathering answer others c.args.lines.now (c.loop-line.line-index + 1) (map (λ s. s.now) c.next_answer.new.left.items) t) (sym longer)
    (gathered_more answer others c.args.lines.now c.loop-line.line-index _ _ _ c.loop-line.text.items _ c.loop-line-test.true (c.loop-line.invariant answer others h) c.next_answer.ensures (ap (option_map (λ a. a.now)) c.in-Some.is))

pub returns-in-None : goal.returns-in-None
returns-in-None c = λ answer others h.
    gathered_bad answer others c.args.lines.now c.loop-line.line-index _ _ _ _ c.loop-line.text.items c.loop-line-test.true (c.loop-line.invariant answer others h) c.next_answer.ensures
    (ap (option_map (λ a. a.now)) c.in-None.is)

pub returns : goal.returns
returns c = λ answer others h. gathered_all answer others c.args.lines.now c.loop-line.line-index _ c.loop-line.text.items (omega (arith, c.loop-line-test.false)) (c.loop-line.invariant answer others h)
