use Rattle.kapi_serve.proofs.Going.{goes_tended}
use Rattle.kapi_serve.proofs.Tending.{on_passed}
use Rattle.kapi_serve.proofs.clients.Clients.pass_at.Goals as goal

pub returns-clause-goes : goal.returns-clause-goes
returns-clause-goes g c = goes_tended _ _ _ _ _ _ _ c.args.index c.index_mut-client.result.now c.pass.new.self c.requires c.index_mut-client.ensures.value c.pass.ensures.goes

pub returns-clause-stands : goal.returns-clause-stands
returns-clause-stands g c = on_passed _ _ _ _ c.args.index c.index_mut-client.result.now c.pass.new.self c.requires c.index_mut-client.ensures.value c.pass.ensures.tends c.pass.ensures.quiet
