use Rattle.kapi_serve.specs.Rounds.{NoneIsDue}
use Rattle.kapi_serve.proofs.places.first_due.Given as goal

-- none so far has an event
abbrev pub invariant-loop-slot : goal.invariant-loop-slot
invariant-loop-slot l = NoneIsDue l.listener l.slots l.from l.slot
