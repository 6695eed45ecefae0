use Rattle.kapi_serve.proofs.Going.{goes_on, goes_showing}
use Rattle.kapi_serve.proofs.Tending.{on_both, settles_on}
use Rattle.kapi_serve.proofs.server.Server.react.Goals as goal

pub returns-clause-goes : goal.returns-clause-goes
returns-clause-goes g c = λ h told. goes_on _ _ _ (goes_showing _ _ _ c.retry.ensures) (goes_on _ _ _ (c.take.ensures.goes h told) (goes_on _ _ _ (c.retry-2.ensures.moves _ _) c.settle.ensures.goes))

pub returns-clause-settles : goal.returns-clause-settles
returns-clause-settles g c = settles_on _ _ _ _ _ _ _ _ _ _ (on_both _ _ _ _ _ _ _ _ _ c.take.ensures.stands c.retry-2.ensures.stands) c.settle.ensures.settles
