use Rattle.kapi_serve.proofs.Going.{goes_nothing, goes_on}
use Rattle.kapi_serve.proofs.Tending.{on_both, on_nothing, on_settled}
use Rattle.kapi_serve.proofs.server.Server.read.Goals as goal

pub loop-init : goal.loop-init
loop-init g c = (goes_nothing _, on_nothing _ _ _)

pub loop-preserved : goal.loop-preserved
loop-preserved g c = (
  goes_on _ _ _ c.loop.invariant.0 (goes_on _ _ _ (c.read_slot.ensures.moves _ _) c.settle-rest.ensures.goes),
  on_both _ _ _ _ _ _ _ _ _ c.loop.invariant.1 (on_both _ _ _ _ _ _ _ _ _ c.read_slot.ensures.stands (on_settled _ _ _ _ _ _ _ c.settle-rest.ensures.settles)),
)

pub returns-in-Stopped-clause-goes : goal.returns-in-Stopped-clause-goes
returns-in-Stopped-clause-goes g c = goes_on _ _ _ c.loop.invariant.0 (c.read_slot.ensures.moves _ _)

pub returns-in-Stopped-clause-stands : goal.returns-in-Stopped-clause-stands
returns-in-Stopped-clause-stands g c = on_both _ _ _ _ _ _ _ _ _ c.loop.invariant.1 c.read_slot.ensures.stands
