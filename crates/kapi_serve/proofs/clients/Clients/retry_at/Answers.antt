use Rattle.std.proofs.Common.{refl}
use Rattle.kapi_serve.proofs.Going.{ends_at, goes_on, goes_still}
use Rattle.kapi_serve.proofs.Tending.{on_each, on_left, on_nothing}
use Rattle.kapi_serve.proofs.clients.Clients.retry_at.Goals as goal

pub returns-in-Ok-clause-moves : goal.returns-in-Ok-clause-moves
returns-in-Ok-clause-moves g c = λ d k. goes_still _ _ _ c.release.ensures.seats c.ask.ensures

pub returns-in-Ok-clause-stands : goal.returns-in-Ok-clause-stands
returns-in-Ok-clause-stands g c = on_each _ _ _ _ _ c.release.ensures.stands

pub returns-in-Err-WouldBlock-clause-moves : goal.returns-in-Err-WouldBlock-clause-moves
returns-in-Err-WouldBlock-clause-moves g c = λ d k. goes_still _ _ _ refl c.ask.ensures

pub returns-in-Err-WouldBlock-clause-stands : goal.returns-in-Err-WouldBlock-clause-stands
returns-in-Err-WouldBlock-clause-stands g c = on_nothing _ _ _

pub returns-in-Err-Failed-clause-moves : goal.returns-in-Err-Failed-clause-moves
returns-in-Err-Failed-clause-moves g c = λ d k.
    goes_on _ _ _ (goes_still _ _ (g.Q.Ports.report c.ask.new.ports) refl c.ask.ensures) (ends_at _ _ _ _ c.args.index _ _ c.index.result.now c.end.ensures c.requires refl refl)

pub returns-in-Err-Failed-clause-stands : goal.returns-in-Err-Failed-clause-stands
returns-in-Err-Failed-clause-stands g c = on_left _ _ _ _ _ _ c.args.index c.index.result.now c.requires c.end.ensures
