use Rattle.kapi_serve.proofs.Going.{goes_nothing, goes_on}
use Rattle.kapi_serve.proofs.Tending.{on_both, on_nothing}
use Rattle.kapi_serve.proofs.clients.Clients.retry.Goals as goal

pub loop-init : goal.loop-init
loop-init g c = ((λ d k. goes_nothing _), on_nothing _ _ _)

pub loop-preserved : goal.loop-preserved
loop-preserved g c = ((λ d k. goes_on _ _ _ (c.loop.invariant.0 d k) (c.retry_at.ensures.moves d k)), on_both _ _ _ _ _ _ _ _ _ c.loop.invariant.1 c.retry_at.ensures.stands)

pub returns-in_default-clause-moves : goal.returns-in_default-clause-moves
returns-in_default-clause-moves g c = c.loop.invariant.0

pub returns-in_default-clause-stands : goal.returns-in_default-clause-stands
returns-in_default-clause-stands g c = c.loop.invariant.1

pub returns-then-not-retry_at-clause-moves : goal.returns-then-not-retry_at-clause-moves
returns-then-not-retry_at-clause-moves g c = λ d k. goes_on _ _ _ (c.loop.invariant.0 d k) (c.retry_at.ensures.moves d k)

pub returns-then-not-retry_at-clause-stands : goal.returns-then-not-retry_at-clause-stands
returns-then-not-retry_at-clause-stands g c = on_both _ _ _ _ _ _ _ _ _ c.loop.invariant.1 c.retry_at.ensures.stands

pub returns-clause-moves : goal.returns-clause-moves
returns-clause-moves g c = c.loop.invariant.0

pub returns-clause-stands : goal.returns-clause-stands
returns-clause-stands g c = c.loop.invariant.1
