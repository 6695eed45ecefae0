use Rattle.std.proofs.Common.{None, []}
use Rattle.kapi_serve.specs.Advances.{Advances}
use Rattle.kapi_serve.specs.Private.ServerStates.{at, moment}
use Rattle.kapi_serve.proofs.server.serve_loop.Given as goal

abbrev pub invariant-loop : goal.invariant-loop
invariant-loop g l = Advances (moment l.initial.core l.initial.desk None [] (g.Q.Ports.report l.initial.ports)) (at l.core l.desk l.server (g.Q.Ports.report l.ports))
