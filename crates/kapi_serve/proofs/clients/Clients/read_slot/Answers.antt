use Rattle.kapi_serve.proofs.Going.{goes_nothing}
use Rattle.kapi_serve.proofs.Tending.{on_nothing}
use Rattle.kapi_serve.proofs.clients.Clients.read_slot.Goals as goal

pub returns-in_default-clause-moves : goal.returns-in_default-clause-moves
returns-in_default-clause-moves g c = λ d k. goes_nothing _

pub returns-in_default-clause-stands : goal.returns-in_default-clause-stands
returns-in_default-clause-stands g c = on_nothing _ _ _
