use Rattle.std.proofs.Common.{refl}
use Rattle.kapi_serve.specs.Private.Clients.{seat_of}
use Rattle.kapi_serve.proofs.Going.{goes_skipped}
use Rattle.kapi_serve.proofs.Tending.{tends_skipped}
use Rattle.kapi_serve.proofs.client.Client.pass.Goals as goal

pub returns-clause-goes : goal.returns-clause-goes
returns-clause-goes g c = λ front back. goes_skipped _ _ front back (seat_of c.args.self.now) c.skip-skipped.result refl c.skip-skipped.ensures.skipped c.skip-skipped.ensures.same

pub returns-clause-tends : goal.returns-clause-tends
returns-clause-tends g c = tends_skipped _ _ _ c.skip-skipped.result c.skip-skipped.ensures.skipped c.skip-skipped.ensures.going c.skip-skipped.ensures.same
