use Rattle.kapi_core.specs.declared.event.Event.TheVariants as event
use Rattle.std.proofs.Common.{◌++◌, ◌∷◌, false, refl, sym, ap, ◌∙◌, inl}
use Rattle.kapi_serve.specs.Private.Clients.{seat_of}
use Rattle.kapi_serve.proofs.Tending.{finished_still, keeps_nothing, keeps_on, tends_nothing, tends_out, tends_served, tends_unserved, unopen_served, waits_nothing}
use Rattle.kapi_serve.proofs.Going.{adds_nothing, goes_finished, goes_nothing, goes_on, goes_out, goes_served, goes_still, goes_unserved}
use Rattle.kapi_serve.proofs.client.Client.serve.Goals as goal

pub returns-then-not-self-clause-goes : goal.returns-then-not-self-clause-goes
returns-then-not-self-clause-goes g c = λ front back. goes_nothing _

pub returns-then-not-is_ready-clause-goes : goal.returns-then-not-is_ready-clause-goes
returns-then-not-is_ready-clause-goes g c = λ front back. goes_still _ _ _ (ap (λ z. front ++ z ∷ back) c.is_ready.ensures.waits.seat) (adds_nothing _)

pub returns-in-Ok-Some-clause-goes : goal.returns-in-Ok-Some-clause-goes
returns-in-Ok-Some-clause-goes g c = λ front back.
    goes_served _ _ _ _ _ front back (seat_of c.is_ready.new.self) (seat_of c.send.new.self) c.in-Ok-Some.field-0 c.in-Ok-Some.output (ap (λ z. front ++ z ∷ back) (sym c.is_ready.ensures.waits.seat)) refl c.in-Ok-Some.ensures (cc) c.send.ensures.shows c.send.ensures.slot c.send.ensures.id c.send.ensures.owed

pub returns-in-Ok-None-clause-goes : goal.returns-in-Ok-None-clause-goes
returns-in-Ok-None-clause-goes g c = λ front back.
    goes_on _ _ _ (goes_unserved _ _ _ front back (seat_of c.is_ready.new.self) c.in-Ok-None.field-0 (ap (λ z. front ++ z ∷ back) (sym c.is_ready.ensures.waits.seat)) refl c.in-Ok-None.ensures (cc))
    (goes_finished _ _ _ front back (record c.is_ready.new.self { fed = false }) c.finish.new.self _ refl refl c.finish.ensures)

pub returns-in-Err-clause-goes : goal.returns-in-Err-clause-goes
returns-in-Err-clause-goes g c = λ front back. goes_out _ _ _ (event.Serve c.is_ready.new.self.id) c.in-Err.ensures (ap (λ z. front ++ z ∷ back) (c.hold.ensures.waits.seat ∙ c.is_ready.ensures.waits.seat))

pub returns-then-not-self-clause-tends : goal.returns-then-not-self-clause-tends
returns-then-not-self-clause-tends g c = tends_nothing _ _ _ (keeps_nothing _)

pub returns-then-not-self-clause-still : goal.returns-then-not-self-clause-still
returns-then-not-self-clause-still g c = λ h. (waits_nothing c.args.self.now, λ less. inl c.if-not-self.true)

pub returns-then-not-is_open-clause-goes : goal.returns-then-not-is_open-clause-goes
returns-then-not-is_open-clause-goes g c = λ front back. goes_nothing _

pub returns-then-not-is_open-clause-tends : goal.returns-then-not-is_open-clause-tends
returns-then-not-is_open-clause-tends g c = tends_nothing _ _ _ (keeps_nothing _)

pub returns-then-not-is_open-clause-still : goal.returns-then-not-is_open-clause-still
returns-then-not-is_open-clause-still g c = λ h. (waits_nothing c.args.self.now, unopen_served c.args.self.now (c.is_open.ensures.full c.if-not-is_open.true))

pub returns-then-not-is_ready-clause-tends : goal.returns-then-not-is_ready-clause-tends
returns-then-not-is_ready-clause-tends g c = tends_nothing _ _ _ c.is_ready.ensures.keeps

pub returns-in-Err-clause-tends : goal.returns-in-Err-clause-tends
returns-in-Err-clause-tends g c = tends_out _ _ _ _ (event.Serve c.is_ready.new.self.id) c.in-Err.ensures (keeps_on _ _ _ c.is_ready.ensures.keeps c.hold.ensures.keeps)

pub returns-in-Ok-Some-clause-tends : goal.returns-in-Ok-Some-clause-tends
returns-in-Ok-Some-clause-tends g c =
    tends_served _ _ _ _ _ c.in-Ok-Some.field-0 c.in-Ok-Some.output c.is_ready.ensures.keeps c.in-Ok-Some.ensures (cc) c.if-not-self.false (λ closed. c.is_open.ensures.going c.if-not-is_open.false (sym c.is_ready.ensures.waits.phase ∙ closed)) c.send.ensures.id c.send.ensures.fed c.send.ensures.phase c.send.ensures.counted (λ n h. c.send.ensures.watching ∙ c.fingerprint-self.ensures n h)

pub returns-in-Ok-None-clause-tends : goal.returns-in-Ok-None-clause-tends
returns-in-Ok-None-clause-tends g c =
    tends_unserved _ _ _ _ _ _ c.in-Ok-None.field-0 _ c.is_ready.ensures.keeps c.in-Ok-None.ensures (cc) (λ closed. c.is_open.ensures.going c.if-not-is_open.false (sym c.is_ready.ensures.waits.phase ∙ closed)) c.finish.ensures

pub returns-in-Ok-None-clause-still : goal.returns-in-Ok-None-clause-still
returns-in-Ok-None-clause-still g c = λ h. finished_still _ _ _ _ _ _ c.is_ready.ensures.waits c.finish.ensures h
