use Rattle.kapi_serve.specs.Places.{IsBusiest}
use Rattle.kapi_serve.proofs.places.busiest.Given as goal

-- by none of the listeners so far came more clients
abbrev pub invariant-loop-listener : goal.invariant-loop-listener
invariant-loop-listener l = IsBusiest l.listener l.found l.slots
