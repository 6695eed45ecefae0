use Rattle.std.proofs.Common.{◌≡◌}
use Rattle.kapi_serve.specs.Listening.{doors}
use Rattle.kapi_serve.proofs.sockets.note_all.Given as goal

-- the ports stay, and no turn passes
abbrev pub invariant-loop-event : goal.invariant-loop-event
invariant-loop-event l = (doors l.listeners.items ≡ doors l.fn.listeners.items) × (l.slots.turn ≡ l.fn.slots.turn)
