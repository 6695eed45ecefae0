use Rattle.kapi_serve.specs.Private.ServerStates.{at}
use Rattle.kapi_serve.specs.Private.ClientsMatch.{ClientsMatchAfter}
use Rattle.kapi_serve.specs.Advances.{Advances}
use Rattle.kapi_serve.proofs.server.Server.settle.Given as goal

abbrev pub invariant-loop : goal.invariant-loop
invariant-loop g l =
    Advances (at l.initial.core l.initial.desk l.initial.self (g.Q.Ports.report l.initial.ports)) (at l.core l.desk l.self (g.Q.Ports.report l.ports)) × ClientsMatchAfter l.initial.core l.core l.initial.self.clients l.self.clients
