use Rattle.std.proofs.Common.{Ok, ap, arith, subst, sym, ◌∙◌, ◌+◌}
use Rattle.kapi_c_requests.specs.Questions.{passed_text}
use Rattle.kapi_c_requests.proofs.Going.{Going, going_all, going_bad, going_more}
use Rattle.kapi_c_requests.proofs.reading.read_texts.Goals as goal

pub returns-in-Err : goal.returns-in-Err
returns-in-Err c =
    going_bad passed_text c.args.passed.now c.loop-text.text-index _ c.loop-text.texts.items _ c.loop-text-test.true c.loop-text.invariant c.in-Err.ensures

pub loop-text-preserved : goal.loop-text-preserved
loop-text-preserved c =
    subst (λ ts. Going passed_text c.args.passed.now (c.loop-text.text-index + 1) ts) (sym c.in_ok-push-in-Ok.ensures)
    (going_more passed_text c.args.passed.now c.loop-text.text-index _ c.loop-text.texts.items _ c.loop-text-test.true c.loop-text.invariant c.in-Ok.ensures)

pub returns : goal.returns
returns c =
    going_all passed_text c.args.passed.now c.loop-text.text-index c.loop-text.texts.items (omega (arith, c.loop-text-test.false)) c.loop-text.invariant
    ∙ ap Ok (sym c.new.ensures)
