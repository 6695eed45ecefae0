use Rattle.std.proofs.Common.{[], None, subst, sym, refl}
use Rattle.kapi_serve.specs.Private.Clients.{seats_of}
use Rattle.kapi_serve.specs.Advances.{Advances}
use Rattle.kapi_serve.specs.Private.ServerStates.{moment}
use Rattle.kapi_serve.proofs.Going.{adds_nothing, goes_after, goes_on, goes_serves, goes_still}
use Rattle.kapi_serve.proofs.server.serve_loop.Goals as goal

pub loop-init : goal.loop-init
loop-init g c =
    let core = c.args.core.now in
    let desk = c.args.desk.now in
    let report = g.Q.Ports.report c.args.ports.now in
    subst (λ k. Advances (moment core desk None [] report) (moment core desk k (seats_of c.new.result.list.items) report)) (sym c.new-2.ensures) (goes_still _ _ _ c.new.ensures.seats (adds_nothing _))

pub loop-preserved : goal.loop-preserved
loop-preserved g c = goes_on _ _ _ c.loop.invariant (goes_after _ _ _ _ _ _ _ _ (g.Q.Ports.report c.loop.ports) (g.Q.Ports.report c.next-in-loop.new.self) _ c.in-Some-next.event c.in-Some-next.ensures.told c.react-rest.ensures.goes)

pub returns-in-None-next : goal.returns-in-None-next
returns-in-None-next g c = goes_serves _ _ _ _ _ _ _ _ c.requires (goes_on _ _ _ c.loop.invariant (goes_still _ _ _ refl c.in-None-next.ensures.told))
