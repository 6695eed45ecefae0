use Rattle.std.proofs.Common.{◌≡◌, ◌+◌, true, ◌&&◌, length, nat_lt, nat_le, None, ◌∙◌, sym, ap, subst}
use Rattle.std.specs.BTreeMap.{insert_entry}
use Rattle.std.specs.Ordering.{nat_cmp}
use Rattle.kapi_core.specs.Running.{Running}
use Rattle.kapi_core.specs.Refines.{Makes, RunsOut}
use Rattle.kapi_core.specs.declared.event.Event.TheVariants as event
use Rattle.kapi_core.specs.declared.event.Answer.TheVariants as told
use Rattle.kapi_core.specs.Limits.{last_connection, open_connections}
use Rattle.kapi_core.proofs.RunsOut.{room_is_late}
use Rattle.kapi_core.proofs.Steps.{made_for, opened, not_opened}
use Rattle.kapi_core.proofs.machine.Core.open.Goals as goal

abbrev HasRoom : Running → Type 0
HasRoom r = (nat_lt (length r.connections) open_connections && nat_le r.next_id last_connection) ≡ true

pub returns-then-not-has_room : goal.returns-then-not-has_room
returns-then-not-has_room g c = λ m h.
    let old = c.args.self.now in
    made_for old.store old.policy old.marks old.connections old.next_id old.rechecks m old.store old.policy old.marks old.connections old.next_id old.rechecks (event.Open c.args.identity) told.TooMany h
    (not_opened old.store old.policy old.marks old.connections old.next_id old.rechecks c.args.identity (sym c.has_room.ensures.room ∙ c.if-not-has_room.true))

pub returns : goal.returns
returns g c =
    let old : Running = record { store = c.self.inside.store; policy = g.P.Policy.content c.self.inside.policy; marks = c.self.inside.tracker; connections = c.self.inside.connections.entries; next_id = c.self.inside.next_id; rechecks = c.self.inside.rechecks } in
    let room : HasRoom old = subst HasRoom (sym c.self.view_is) (sym c.has_room.ensures.room ∙ c.if-not-has_room.false) in
    let P : Running → Type 0 = λ r. Makes r (record old { connections = c.insert.new.self.entries; next_id = old.next_id + 1 }) (event.Open c.args.identity) (told.Opened (record { 0 = old.next_id })) in
    subst P c.self.view_is
    (λ m h. made_for old.store old.policy old.marks old.connections old.next_id old.rechecks m old.store old.policy old.marks c.insert.new.self.entries (old.next_id + 1) old.rechecks (event.Open c.args.identity) (told.Opened (record { 0 = old.next_id })) h
    (opened old.store old.policy old.marks old.connections c.insert.new.self.entries old.next_id old.rechecks c.args.identity room
    (c.in-Ok.ensures.entries ∙ ap (λ u. insert_entry nat_cmp old.connections old.next_id (record { identity = c.args.identity; inbox = u; watching = None })) c.new.ensures)))

pub returns-in-Err : goal.returns-in-Err
returns-in-Err g c =
    let old : Running = record { store = c.self.inside.store; policy = g.P.Policy.content c.self.inside.policy; marks = c.self.inside.tracker; connections = c.self.inside.connections.entries; next_id = c.self.inside.next_id; rechecks = c.self.inside.rechecks } in
    let room : HasRoom old = subst HasRoom (sym c.self.view_is) (sym c.has_room.ensures.room ∙ c.if-not-has_room.false) in
    let P : Running → Type 0 = λ r. RunsOut r (record old { connections = c.insert.new.self.entries }) (event.Open c.args.identity) in
    subst P c.self.view_is
    (λ m h. (rw c.in-Err.ensures.err h, room_is_late old.store old.policy old.marks old.connections old.next_id old.rechecks m c.args.identity room h))
