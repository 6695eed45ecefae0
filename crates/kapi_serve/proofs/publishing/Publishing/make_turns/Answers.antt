use Rattle.kapi_serve.proofs.Going.{goes_nothing, goes_on}
use Rattle.kapi_serve.proofs.Tending.{passes_both, passes_nothing}
use Rattle.kapi_serve.proofs.publishing.Publishing.make_turns.Goals as goal

pub loop-init : goal.loop-init
loop-init g c = ((λ s. goes_nothing _), passes_nothing _)

pub loop-preserved : goal.loop-preserved
loop-preserved g c = ((λ s. goes_on _ _ _ (c.loop.invariant.0 s) (c.make_turn-turned.ensures.goes s)), passes_both _ _ _ c.loop.invariant.1 c.make_turn-turned.ensures.passes)

pub returns-then-ne-clause-goes : goal.returns-then-ne-clause-goes
returns-then-ne-clause-goes g c = λ s. goes_on _ _ _ (c.loop.invariant.0 s) (c.make_turn-turned.ensures.goes s)

pub returns-then-ne-clause-passes : goal.returns-then-ne-clause-passes
returns-then-ne-clause-passes g c = passes_both _ _ _ c.loop.invariant.1 c.make_turn-turned.ensures.passes
