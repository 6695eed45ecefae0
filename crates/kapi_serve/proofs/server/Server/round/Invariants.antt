use Rattle.std.specs.Prelude.{◌≡◌, ◌≤◌}
use Rattle.kapi_serve.specs.Private.ServerStates.{at}
use Rattle.kapi_serve.specs.Advances.{Advances}
use Rattle.kapi_serve.specs.declared.progress.Progress.TheVariants as progress
use Rattle.kapi_serve.proofs.Tending.{Round}
use Rattle.kapi_serve.proofs.server.Server.round.Given as goal

abbrev pub invariant-loop-index : goal.invariant-loop-index
invariant-loop-index g l =
    Advances (at l.initial.core l.initial.desk l.initial.self (g.Q.Ports.report l.initial.ports)) (at l.core l.desk l.self (g.Q.Ports.report l.ports))
    × Round l.initial.core l.core l.initial.self.clients.list.items l.initial.self.clients.awake l.self.clients.list.items l.self.clients.awake l.index (l.progress ≡ progress.Still)
    × (l.self.clients.awake.start ≤ l.index)
    × (l.self.clients.awake.end ≡ l.initial.self.clients.awake.end)
