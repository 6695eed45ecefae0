use Rattle.std.proofs.Common.{◌≡◌, take}
use Rattle.kapi.specs.Doors.{doors_of}
use Rattle.kapi_serve.specs.Listening.{doors}
use Rattle.kapi.proofs.serving.listen.Given as goal

-- the ports so far are those of the words so far
abbrev pub invariant-loop-listen : goal.invariant-loop-listen
invariant-loop-listen g l = doors l.sockets.listeners.items ≡ doors_of (take l.listen-index l.listens)
