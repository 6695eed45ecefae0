use Rattle.kapi_serve.proofs.Tending.{stands_none}
use Rattle.kapi_serve.proofs.clients.Clients.new.Goals as goal

pub returns-clause-stands : goal.returns-clause-stands
returns-clause-stands c = λ m k. stands_none m _ _ c.new.ensures.items k
