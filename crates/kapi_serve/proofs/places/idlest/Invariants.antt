use Rattle.std.proofs.Common.{Option, Some, None, ℕ, List}
use Rattle.kapi_serve.proofs.Picking.{IsFound}
use Rattle.kapi_serve.proofs.places.idlest.Given as goal

-- the idlest was found of the slots so far
abbrev pub invariant-loop-slot : goal.invariant-loop-slot
invariant-loop-slot l = IsFound l.listener l.slots l.slot l.found
