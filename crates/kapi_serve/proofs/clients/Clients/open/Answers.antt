use Rattle.std.proofs.Common.{◌++◌, [], ◌∷◌, ap, refl, ◌∙◌}
use Rattle.kapi_serve.specs.Private.Clients.{seats_of}
use Rattle.kapi_serve.proofs.Going.{goes_lost, goes_on, goes_opened, goes_unasked, goes_unopened}
use Rattle.kapi_serve.proofs.Tending.{on_as, on_both, on_opened, on_unopened}
use Rattle.kapi_serve.proofs.clients.Clients.open.Goals as goal

pub returns-then-is_err-clause-moves : goal.returns-then-is_err-clause-moves
returns-then-is_err-clause-moves g c = λ h first d k.
    goes_on _ _ _ (goes_unasked _ _ _ _ _ _ _ _ _ (c.forget.ensures.moves d k))
    (goes_lost _ _ _ (g.Q.Ports.report c.args.ports.now) _ c.args.slot c.args.identity c.forget.ensures.free (ap seats_of c.reserve.ensures.items) (λ m y. y) (λ y. (y, first y)) c.end.ensures.told)

pub returns-in-Ok-clause-moves : goal.returns-in-Ok-clause-moves
returns-in-Ok-clause-moves g c = λ h first d k.
    goes_on _ _ _ (goes_unasked _ _ _ _ _ _ _ _ _ (c.forget.ensures.moves d k))
    (goes_opened _ _ _ _ c.args.slot c.args.identity c.in-Ok.id c.forget.ensures.free (c.add.ensures.seats ∙ ap (λ cs. seats_of cs ++ record { slot = c.args.slot; conn = c.in-Ok.id; owed = [] } ∷ []) c.reserve.ensures.items)
    c.in-Ok.ensures (λ y. (y, first y)))

pub returns-in-Err-clause-moves : goal.returns-in-Err-clause-moves
returns-in-Err-clause-moves g c = λ h first d k.
    goes_on _ _ _ (goes_unasked _ _ _ _ _ _ _ _ _ (c.forget.ensures.moves d k))
    (goes_unopened _ _ _ (g.Q.Ports.report c.args.ports.now) _ c.args.slot c.args.identity c.in-Err._refused c.forget.ensures.free (ap seats_of c.reserve.ensures.items) c.in-Err.ensures (λ y. (y, first y)) c.end-in-Err.ensures.told)

pub returns-then-is_err-clause-stands : goal.returns-then-is_err-clause-stands
returns-then-is_err-clause-stands g c = on_as _ _ _ _ _ _ _ _ c.forget.ensures.stands c.reserve.ensures.items refl

pub returns-in-Ok-clause-stands : goal.returns-in-Ok-clause-stands
returns-in-Ok-clause-stands g c = on_as _ _ _ _ _ _ _ _
    (on_both _ _ _ _ _ _ _ _ _ (on_as _ _ _ _ _ _ _ _ c.forget.ensures.stands c.reserve.ensures.items refl) (on_opened _ _ _ _ _ c.args.identity c.in-Ok.id c.in-Ok.ensures c.add.ensures.fresh))
    refl c.add.ensures.awake

pub returns-in-Err-clause-stands : goal.returns-in-Err-clause-stands
returns-in-Err-clause-stands g c =
    on_both _ _ _ _ _ _ _ _ _ (on_as _ _ _ _ _ _ _ _ c.forget.ensures.stands c.reserve.ensures.items refl) (on_unopened _ _ _ _ c.args.identity c.in-Err._refused c.in-Err.ensures)
