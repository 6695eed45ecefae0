use Rattle.kapi_serve.specs.Private.ServerStates.{Writes}
use Rattle.kapi_serve.specs.Private.ClientsMatch.{Keeps}
use Rattle.kapi_serve.proofs.client.Client.flush.Given as goal

abbrev pub invariant-loop : goal.invariant-loop
invariant-loop g l = Writes l.initial.self l.self (g.Q.Ports.report l.initial.ports) (g.Q.Ports.report l.ports) × Keeps l.initial.self l.self
