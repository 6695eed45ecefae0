-- A free slot leaves the ports, so a client that is accepted came by one of them.
use Rattle.kapi_serve.proofs.Listening.{came_same}
use Rattle.kapi_serve.proofs.sockets.Sockets.accept.Goals as goal

pub returns-in-Some-accept_or_pause-clause-identity : goal.returns-in-Some-accept_or_pause-clause-identity
returns-in-Some-accept_or_pause-clause-identity g c =
    came_same _ _ _ c.loop-turn.invariant.1 c.in-Some-accept_or_pause.ensures.identity
