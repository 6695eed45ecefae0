use Rattle.std.specs.Prelude.{option_map}
use Rattle.kapi_serve.specs.Private.ClientsMatch.{AreCalled}
use Rattle.kapi_serve.proofs.clients.Clients.first_called.Given as goal

abbrev pub invariant-loop-index : goal.invariant-loop-index
invariant-loop-index l = AreCalled (option_map (λ v. v.items) l.concerned) l.from l.self.list.items → AreCalled (option_map (λ v. v.items) l.concerned) l.index l.self.list.items
