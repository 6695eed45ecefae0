use Rattle.std.specs.Prelude.{◌≡◌, length}
use Rattle.kapi_serve.specs.Private.Clients.{seats_of}
use Rattle.kapi_core.specs.Machine.{Machine}
use Rattle.kapi_serve.specs.Private.ClientsMatch.{ClientsMatch}
use Rattle.kapi_serve.proofs.Placing.{freed_to}
use Rattle.kapi_serve.proofs.clients.Clients.unblock_all.Given as goal

abbrev pub invariant-loop-index : goal.invariant-loop-index
invariant-loop-index l = (seats_of l.self.list.items ≡ seats_of l.initial.self.list.items) × (length l.self.list.items ≡ length l.initial.self.list.items)
    × ((m : Machine) → ClientsMatch m l.initial.self → ClientsMatch m l.self)
    × (l.self.list.items ≡ freed_to l.index l.initial.self.list.items)
