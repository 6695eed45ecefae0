use Rattle.kapi_store.proofs.Cuts.{around_absent, around_found, around_one, around_other}
use Rattle.kapi_store.proofs.cut.around.Goals as goal

pub returns-then-last-before-clause-found : goal.returns-then-last-before-clause-found
returns-then-last-before-clause-found c = around_found c.args.text.now c.args.part.now c.in_ok-before.before.now c.in_ok-before.behind.now c.in_ok-before.ensures.cases

pub returns-then-last-before-clause-once : goal.returns-then-last-before-clause-once
returns-then-last-before-clause-once c =
    λ a b is. around_one c.args.text.now c.args.part.now c.in_ok-before.before.now c.in_ok-before.behind.now a b c.in_ok-last.last c.in_ok-before.ensures.cases c.in_ok-last.ensures.cases c.if-last-before.true is

pub returns-in_err-before-clause-none : goal.returns-in_err-before-clause-none
returns-in_err-before-clause-none c = λ none a b is. around_absent c.args.text.now c.args.part.now a b c.in_err-before.ensures.cases is

pub returns-else-last-before-clause-none : goal.returns-else-last-before-clause-none
returns-else-last-before-clause-none c =
    λ none a b is. around_other c.args.text.now c.args.part.now c.in_ok-before.before.now c.in_ok-before.behind.now a c.in_ok-last.last c.in_ok-before.ensures.cases c.in_ok-last.ensures.cases c.if-last-before.false
