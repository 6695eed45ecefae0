use Rattle.kapi_serve.proofs.Going.{goes_nothing, goes_on}
use Rattle.kapi_serve.proofs.Tending.{on_both, on_nothing, on_settled, settles_on}
use Rattle.kapi_serve.proofs.server.Server.settle.Goals as goal

pub loop-init : goal.loop-init
loop-init g c = (goes_nothing _, on_nothing _ _ _)

pub loop-preserved : goal.loop-preserved
loop-preserved g c = (goes_on _ _ _ c.loop.invariant.0 c.round-progress.ensures.goes, on_both _ _ _ _ _ _ _ _ _ c.loop.invariant.1 (on_settled _ _ _ _ _ _ _ c.round-progress.ensures.settles))

pub returns-then-ne-clause-goes : goal.returns-then-ne-clause-goes
returns-then-ne-clause-goes g c = goes_on _ _ _ c.loop.invariant.0 c.round-progress.ensures.goes

pub returns-then-ne-clause-settles : goal.returns-then-ne-clause-settles
returns-then-ne-clause-settles g c = settles_on _ _ _ _ _ _ _ _ _ _ c.loop.invariant.1 c.round-progress.ensures.settles
