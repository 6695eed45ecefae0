use Rattle.kapi_serve.proofs.Going.{goes_nothing}
use Rattle.kapi_serve.proofs.clients.Clients.pass_before.Goals as goal

pub returns-then-not-is_before_deletion-clause-goes : goal.returns-then-not-is_before_deletion-clause-goes
returns-then-not-is_before_deletion-clause-goes g c = goes_nothing _
