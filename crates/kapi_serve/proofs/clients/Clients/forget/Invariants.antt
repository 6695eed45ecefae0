use Rattle.std.specs.Prelude.{length}
use Rattle.kapi_serve.specs.Private.ServerStates.{Moves, unasked}
use Rattle.kapi_serve.specs.Private.ClientsMatch.{ClientsMatchAfter}
use Rattle.kapi_serve.proofs.clients.Clients.forget.Given as goal

abbrev pub invariant-loop-index : goal.invariant-loop-index
invariant-loop-index g l = Moves l.initial.core l.core l.initial.self l.self unasked unasked × ClientsMatchAfter l.initial.core l.core l.initial.self l.self

abbrev pub decreases-loop-index : goal.decreases-loop-index
decreases-loop-index g l = length l.self.list.items
