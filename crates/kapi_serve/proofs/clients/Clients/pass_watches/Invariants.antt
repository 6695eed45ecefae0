use Rattle.std.specs.Prelude.{◌≡◌, length}
use Rattle.kapi_serve.specs.Advances.{Advances}
use Rattle.kapi_serve.specs.Private.Clients.{seats_of}
use Rattle.kapi_serve.specs.Private.ClientsMatch.{ClientsMatchAfter}
use Rattle.kapi_serve.specs.Private.ServerStates.{stage}
use Rattle.kapi_serve.proofs.clients.Clients.pass_watches.Given as goal

abbrev pub invariant-loop-index : goal.invariant-loop-index
invariant-loop-index g l =
    Advances (stage l.initial.core l.initial.desk l.initial.publishing (seats_of l.initial.self.list.items)) (stage l.core l.desk l.publishing (seats_of l.self.list.items)) × ClientsMatchAfter l.initial.core l.core l.initial.self l.self
    × (l.self.awake ≡ l.initial.self.awake) × (length l.self.list.items ≡ length l.initial.self.list.items)
