use Rattle.kapi_serve.proofs.Picking.{IsFewest}
use Rattle.kapi_serve.proofs.sockets.next_listener.Given as goal

-- the one by which the fewest came was found of the listeners so far
abbrev pub invariant-loop-index : goal.invariant-loop-index
invariant-loop-index l = IsFewest l.listeners l.slots.streams.items l.index l.found
