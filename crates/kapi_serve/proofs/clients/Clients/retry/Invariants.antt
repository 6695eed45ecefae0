use Rattle.kapi_serve.specs.Private.ServerStates.{Moves}
use Rattle.kapi_serve.specs.Private.ClientsMatch.{ClientsMatchAfter}
use Rattle.kapi_serve.proofs.clients.Clients.retry.Given as goal

abbrev pub invariant-loop : goal.invariant-loop
invariant-loop g l = Moves l.initial.core l.core l.initial.self l.self (g.Q.Ports.report l.initial.ports) (g.Q.Ports.report l.ports) × ClientsMatchAfter l.initial.core l.core l.initial.self l.self
