use Rattle.std.proofs.Common.{[], ◌∷◌, arith, length, length-append, subst, sym, ◌+◌, ◌∙◌, ap}
use Rattle.kapi_c_requests.specs.Batches.{number_in}
use Rattle.kapi_c_requests.proofs.Going.{Going, going_all, going_bad, going_more}
use Rattle.kapi_c_requests.proofs.batch.numbers.Goals as goal

pub returns-in-Err : goal.returns-in-Err
returns-in-Err c = record {
  numbers = going_bad (number_in c.args.loaded.now) c.args.passed.now c.loop-question.question-index _ c.loop-question.numbers.items _ c.loop-question-test.true c.loop-question.invariant.0 c.in-Err.ensures;
  len = tt;
}

pub loop-question-preserved : goal.loop-question-preserved
loop-question-preserved c = (
  subst (λ ns. Going (number_in c.args.loaded.now) c.args.passed.now (c.loop-question.question-index + 1) ns) (sym c.in_ok-push-in-Ok.ensures)
      (going_more (number_in c.args.loaded.now) c.args.passed.now c.loop-question.question-index _ c.loop-question.numbers.items _ c.loop-question-test.true c.loop-question.invariant.0 c.in-Ok.ensures),
  ap length c.in_ok-push-in-Ok.ensures ∙ length-append c.loop-question.numbers.items (c.in-Ok.found ∷ []) ∙ ap (λ n. n + 1) c.loop-question.invariant.1,
)

pub returns-clause-numbers : goal.returns-clause-numbers
returns-clause-numbers c =
    going_all (number_in c.args.loaded.now) c.args.passed.now c.loop-question.question-index c.loop-question.numbers.items (omega (arith, c.loop-question-test.false)) c.loop-question.invariant.0
