-- A client has the identity of the listener, and a pause leaves the ports.
use Rattle.std.proofs.Common.{◌∙◌, refl, arith}
use Rattle.kapi_serve.proofs.Listening.{came_by, doors_kept}
use Rattle.kapi_serve.proofs.sockets.Sockets.accept_or_pause.Goals as goal

pub returns-in-Ok-clause-identity : goal.returns-in-Ok-clause-identity
returns-in-Ok-clause-identity g c =
    let ls = c.args.self.now.listeners in
    came_by ls.items ls.items c.args.index c.args.slot c.in-Ok.event (omega (arith, c.requires.listener, ls.ok.0)) refl c.in-Ok.ensures.identity

pub returns-in-Err-clause-doors : goal.returns-in-Err-clause-doors
returns-in-Err-clause-doors g c =
    let ls = c.accept_at.new.self.listeners in
    doors_kept ls.items c.args.index c.index_mut.result.now c.pause.new.self (omega (arith, c.requires.listener, c.in-Err.ensures.same, ls.ok.0)) c.index_mut.ensures.value c.pause.ensures.door.0 c.pause.ensures.door.1
    ∙ c.in-Err.ensures.doors
