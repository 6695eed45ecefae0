use Rattle.kapi_core.specs.declared.event.Event.TheVariants as event
use Rattle.std.proofs.Common.{◌++◌, ◌∷◌, true, refl, sym, ap, ◌∙◌, inl, inr}
use Rattle.kapi_serve.specs.Private.Clients.{seat_of}
use Rattle.kapi_serve.proofs.Tending.{keeps_nothing, keeps_on, keeps_shown, tends_nothing, tends_on, tends_out, tends_shown, tends_unshown, waits_nothing, waits_on, waits_shown}
use Rattle.kapi_serve.proofs.Going.{adds_nothing, goes_nothing, goes_out, goes_shown, goes_still, goes_unshown, makes_nothing}
use Rattle.kapi_serve.proofs.client.Client.pump.Goals as goal

pub returns-then-is_none-clause-goes : goal.returns-then-is_none-clause-goes
returns-then-is_none-clause-goes g c = λ front back. goes_nothing _

pub returns-then-not-is_ready-clause-goes : goal.returns-then-not-is_ready-clause-goes
returns-then-not-is_ready-clause-goes g c = λ front back. goes_still _ _ _ (ap (λ z. front ++ z ∷ back) c.is_ready.ensures.waits.seat) (adds_nothing _)

pub returns-in-Ok-Some-clause-goes : goal.returns-in-Ok-Some-clause-goes
returns-in-Ok-Some-clause-goes g c = λ front back.
    goes_shown _ _ _ _ _ front back (seat_of c.is_ready.new.self) (seat_of c.send.new.self) c.in-Ok-Some.field-0 c.in-Ok-Some.output (ap (λ z. front ++ z ∷ back) (sym c.is_ready.ensures.waits.seat)) refl c.in-Ok-Some.ensures (cc) c.send.ensures.shows c.send.ensures.slot c.send.ensures.id c.send.ensures.owed

pub returns-in-Ok-None-clause-goes : goal.returns-in-Ok-None-clause-goes
returns-in-Ok-None-clause-goes g c = λ front back. goes_unshown _ _ _ front back (seat_of c.is_ready.new.self) c.in-Ok-None.field-0 (ap (λ z. front ++ z ∷ back) (sym c.is_ready.ensures.waits.seat)) refl c.in-Ok-None.ensures (cc)

pub returns-in-Err-clause-goes : goal.returns-in-Err-clause-goes
returns-in-Err-clause-goes g c = λ front back. goes_out _ _ _ (event.Pump c.is_ready.new.self.id) c.in-Err.ensures (ap (λ z. front ++ z ∷ back) (c.hold.ensures.waits.seat ∙ c.is_ready.ensures.waits.seat))

pub returns-then-is_none-clause-tends : goal.returns-then-is_none-clause-tends
returns-then-is_none-clause-tends g c = tends_nothing _ _ _ (keeps_nothing _)

pub returns-then-is_none-clause-still : goal.returns-then-is_none-clause-still
returns-then-is_none-clause-still g c = λ h. (waits_nothing _, keeps_nothing _)

pub returns-then-not-is_open-clause-goes : goal.returns-then-not-is_open-clause-goes
returns-then-not-is_open-clause-goes g c = λ front back. goes_nothing _

pub returns-then-not-is_open-clause-tends : goal.returns-then-not-is_open-clause-tends
returns-then-not-is_open-clause-tends g c = tends_nothing _ _ _ (keeps_nothing _)

pub returns-then-not-is_open-clause-still : goal.returns-then-not-is_open-clause-still
returns-then-not-is_open-clause-still g c = λ h. (waits_nothing _, keeps_nothing _)

pub returns-then-not-is_ready-clause-tends : goal.returns-then-not-is_ready-clause-tends
returns-then-not-is_ready-clause-tends g c = tends_nothing _ _ _ c.is_ready.ensures.keeps

pub returns-in-Err-clause-tends : goal.returns-in-Err-clause-tends
returns-in-Err-clause-tends g c = tends_out _ _ _ _ (event.Pump c.is_ready.new.self.id) c.in-Err.ensures (keeps_on _ _ _ c.is_ready.ensures.keeps c.hold.ensures.keeps)

pub returns-in-Ok-Some-clause-tends : goal.returns-in-Ok-Some-clause-tends
returns-in-Ok-Some-clause-tends g c =
    tends_shown _ _ _ _ _ c.in-Ok-Some.field-0 c.in-Ok-Some.output c.is_ready.ensures.keeps c.in-Ok-Some.ensures (cc) (λ closed. c.is_open.ensures.going c.if-not-is_open.false (sym c.is_ready.ensures.waits.phase ∙ closed)) c.send.ensures.id c.send.ensures.fed c.send.ensures.phase c.send.ensures.counted (λ n h. c.send.ensures.watching ∙ c.fingerprint-self.ensures n h)

pub returns-in-Ok-None-clause-tends : goal.returns-in-Ok-None-clause-tends
returns-in-Ok-None-clause-tends g c =
    tends_on _ _ _ _ _ _ (tends_unshown _ _ _ _ c.in-Ok-None.field-0 c.is_ready.ensures.keeps c.in-Ok-None.ensures (cc) (λ closed. c.is_open.ensures.going c.if-not-is_open.false (sym c.is_ready.ensures.waits.phase ∙ closed)))
    (tends_nothing _ _ _ (keeps_shown _ true))

pub returns-in-Ok-None-clause-still : goal.returns-in-Ok-None-clause-still
returns-in-Ok-None-clause-still g c = λ h. (waits_on _ _ _ c.is_ready.ensures.waits (waits_shown _ true), keeps_on _ _ _ c.is_ready.ensures.keeps (keeps_shown _ true))

pub returns-then-not-is_ready-clause-shown : goal.returns-then-not-is_ready-clause-shown
returns-then-not-is_ready-clause-shown g c = λ h. inl (sym c.is_ready.ensures.shown ∙ h)

pub returns-in-Ok-None-clause-shown : goal.returns-in-Ok-None-clause-shown
returns-in-Ok-None-clause-shown g c = λ h. inr (makes_nothing _ _ _ c.in-Ok-None.field-0 c.in-Ok-None.ensures (cc))

pub returns-in-Err-clause-shown : goal.returns-in-Err-clause-shown
returns-in-Err-clause-shown g c = λ h. inl (sym c.is_ready.ensures.shown ∙ sym c.hold.ensures.shown ∙ h)
