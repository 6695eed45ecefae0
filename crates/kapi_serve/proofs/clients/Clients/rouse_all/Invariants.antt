use Rattle.std.specs.Prelude.{◌≡◌, ◌-◌, length, option_map}
use Rattle.kapi_serve.specs.Private.Clients.{seats_of}
use Rattle.kapi_core.specs.Machine.{Machine}
use Rattle.kapi_serve.specs.Private.ClientsMatch.{AreCalled, ClientsMatch}
use Rattle.kapi_serve.proofs.clients.Clients.rouse_all.Given as goal

abbrev pub invariant-loop-index : goal.invariant-loop-index
invariant-loop-index l = (seats_of l.self.list.items ≡ seats_of l.initial.self.list.items) × (length l.self.list.items ≡ length l.initial.self.list.items)
    × ((m : Machine) → ClientsMatch m l.initial.self → ClientsMatch m l.self)
    × AreCalled (option_map (λ v. v.items) l.concerned) l.from l.self.list.items

abbrev pub decreases-loop-index : goal.decreases-loop-index
decreases-loop-index l = length l.self.list.items - l.from
