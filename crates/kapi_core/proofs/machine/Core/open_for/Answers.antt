use Rattle.std.proofs.Common.{◌∙◌, sym}
use Rattle.kapi_core.specs.declared.event.Event.TheVariants as event
use Rattle.kapi_core.specs.declared.event.Answer.TheVariants as told
use Rattle.kapi_core.proofs.RunsOut.{steps_err, room_is_late}
use Rattle.kapi_core.proofs.Steps.{made_for, not_opened}
use Rattle.kapi_core.proofs.machine.Core.open_for.Goals as goal

pub returns-then-not-has_room : goal.returns-then-not-has_room
returns-then-not-has_room g c = λ m h.
    let old = c.args.self.now in
    made_for old.store old.policy old.marks old.connections old.next_id old.rechecks m old.store old.policy old.marks old.connections old.next_id old.rechecks (event.Open c.args.identity.now) told.TooMany h
    (not_opened old.store old.policy old.marks old.connections old.next_id old.rechecks c.args.identity.now (sym c.has_room.ensures.room ∙ c.if-not-has_room.true))

pub returns-in_err-identity : goal.returns-in_err-identity
returns-in_err-identity g c =
    let old = c.args.self.now in
    steps_err old old (event.Open c.args.identity.now) c.from_residual.result c.from_residual.ensures.0
    (λ m h. (h, room_is_late old.store old.policy old.marks old.connections old.next_id old.rechecks m c.args.identity.now (sym c.has_room.ensures.room ∙ c.if-not-has_room.false) h))
