use Rattle.std.proofs.Common.{◌++◌, [], ◌∷◌, take, ap, sym, refl, ◌∙◌}
use Rattle.kapi_serve.specs.Private.Clients.{others}
use Rattle.kapi_serve.specs.declared.port.Entry.TheVariants as entry
use Rattle.kapi_serve.proofs.Going.{ends_at, feeds_at, goes_nothing, goes_on, goes_still, others_fed, reads_end_at}
use Rattle.kapi_serve.proofs.Placing.{others_ended}
use Rattle.kapi_serve.proofs.Tending.{on_both, on_each, on_left, on_nothing, on_woken}
use Rattle.kapi_serve.proofs.clients.Clients.read_slot_at.Goals as goal

pub returns-then-ne-clause-moves : goal.returns-then-ne-clause-moves
returns-then-ne-clause-moves g c = λ d k. goes_nothing _

pub returns-in-Ok-eq0-clause-moves : goal.returns-in-Ok-eq0-clause-moves
returns-in-Ok-eq0-clause-moves g c = λ d k.
    let e = c.index.result.now in
    let report = g.Q.Ports.report c.args.ports.now in
    reads_end_at _ _ _ c.args.index c.args.self.now.list.items e c.requires.bound refl c.reach_end.ensures.seats (λ y.
    let b = c.in-Ok-eq0.ensures.told y in
    (b.0, b.1 ∙ (λ j. report.history ++ entry.Gave (sym (c.requires.found e) j) (take (c.in-Ok-eq0.field-0-test j) c.read.new.buffer) ∷ [])))

pub returns-in-Err-WouldBlock-clause-moves : goal.returns-in-Err-WouldBlock-clause-moves
returns-in-Err-WouldBlock-clause-moves g c = λ d k. goes_still _ _ _ refl c.in-Err-WouldBlock.ensures.told

pub returns-in-Err-Failed-clause-moves : goal.returns-in-Err-Failed-clause-moves
returns-in-Err-Failed-clause-moves g c = λ d k.
    goes_on _ _ _ (goes_still _ _ (g.Q.Ports.report c.read.new.self) refl c.in-Err-Failed.ensures.told) (ends_at _ _ _ _ c.args.index _ _ c.index.result.now c.end.ensures c.requires.bound refl refl)

pub returns-in-Ok-eq0-clause-others : goal.returns-in-Ok-eq0-clause-others
returns-in-Ok-eq0-clause-others g c = ap (λ xs. others c.args.slot xs) c.reach_end.ensures.seats

pub returns-in-Ok-clause-moves : goal.returns-in-Ok-clause-moves
returns-in-Ok-clause-moves g c = λ d k.
    let e = c.index.result.now in
    let report = g.Q.Ports.report c.args.ports.now in
    feeds_at _ _ _ (g.Q.Ports.report c.read.new.self) _ c.args.index _ _ _ e c.feed.ensures.feeds c.requires.bound refl refl (λ y.
    let b = c.in-Ok.ensures.told y in
    (b.0, b.1 ∙ ap (λ s. report.history ++ entry.Gave s (take c.in-Ok.count c.read.new.buffer) ∷ []) (sym (c.requires.found e))))

pub returns-in-Ok-clause-others : goal.returns-in-Ok-clause-others
returns-in-Ok-clause-others g c = let e = c.index.result.now in others_fed c.args.slot c.args.index _ _ _ _ _ _ _ e c.feed.ensures.feeds c.requires.bound (c.requires.found e)

pub returns-in-Err-Failed-clause-others : goal.returns-in-Err-Failed-clause-others
returns-in-Err-Failed-clause-others g c = let e = c.index.result.now in others_ended c.args.slot c.args.index _ _ e c.requires.bound (c.requires.found e) c.end.ensures.list

pub returns-then-ne-clause-stands : goal.returns-then-ne-clause-stands
returns-then-ne-clause-stands g c = on_nothing _ _ _

pub returns-in-Ok-eq0-clause-stands : goal.returns-in-Ok-eq0-clause-stands
returns-in-Ok-eq0-clause-stands g c = on_both _ _ _ _ _ _ _ _ _ (on_woken _ _ _ _ c.add.ensures.others) (on_each _ _ _ _ _ (c.reach_end.ensures.stands c.add.ensures.within))

pub returns-in-Ok-clause-stands : goal.returns-in-Ok-clause-stands
returns-in-Ok-clause-stands g c = on_both _ _ _ _ _ _ _ _ _ (on_woken _ _ _ _ c.add.ensures.others) (c.feed.ensures.stands c.add.ensures.within)

pub returns-in-Err-WouldBlock-clause-stands : goal.returns-in-Err-WouldBlock-clause-stands
returns-in-Err-WouldBlock-clause-stands g c = on_woken _ _ _ _ c.add.ensures.others

pub returns-in-Err-Failed-clause-stands : goal.returns-in-Err-Failed-clause-stands
returns-in-Err-Failed-clause-stands g c = on_both _ _ _ _ _ _ _ _ _ (on_woken _ _ _ _ c.add.ensures.others) (on_left _ _ _ _ _ _ c.args.index c.index.result.now c.requires.bound c.end.ensures)
