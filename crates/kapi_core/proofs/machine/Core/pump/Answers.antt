use Rattle.std.proofs.Common.{◌≡◌, Bool, List, [], Some, None, option_map, ap, ◌∙◌, sym, subst}
use Rattle.std.specs.BTreeMap.{is_at}
use Rattle.std.specs.Map.{lookup}
use Rattle.std.specs.Ordering.{nat_cmp}
use Rattle.kapi_answer.specs.Watch.{event_reply_of, rechecked}
use Rattle.kapi_watch.specs.Shown.{event_of}
use Rattle.kapi_policy.specs.declared.change.PolicyChange.{PolicyChange}
use Rattle.kapi_core.specs.Running.{Running}
use Rattle.kapi_core.specs.Refines.{Makes}
use Rattle.kapi_core.specs.declared.event.Event.TheVariants as event
use Rattle.kapi_core.specs.declared.event.Answer.TheVariants as told
use Rattle.kapi_core.proofs.Pumping.{pumped_event, pumped_idle, pumped_late, pumped_nothing, pumped_nowhere}
use Rattle.kapi_core.proofs.RunsOut.{sends_err}
use Rattle.kapi_core.proofs.Steps.{made_for}
use Rattle.kapi_core.proofs.machine.Core.pump.Goals as goal

pub returns-in_default : goal.returns-in_default
returns-in_default g c = λ m h.
    let old = c.args.self.now in
    let P : Running → Type 0 = λ r. lookup (is_at (nat_cmp c.args.conn.0)) r.connections ≡ None in
    made_for old.store old.policy old.marks old.connections old.next_id old.rechecks m old.store old.policy old.marks old.connections old.next_id old.rechecks (event.Pump c.args.conn) told.Nothing h
    (pumped_nowhere old.store old.policy old.marks old.connections old.next_id old.rechecks c.args.conn (subst P c.self.view_is (sym c.in_default.ensures.value)))

pub returns-in_default-watching : goal.returns-in_default-watching
returns-in_default-watching g c = λ m h.
    let old = c.args.self.now in
    let P : Running → Type 0 = λ r. lookup (is_at (nat_cmp c.args.conn.0)) r.connections ≡ Some c.in-Some.connection.now in
    made_for old.store old.policy old.marks old.connections old.next_id old.rechecks m old.store old.policy old.marks old.connections old.next_id old.rechecks (event.Pump c.args.conn) told.Nothing h
    (pumped_idle old.store old.policy old.marks old.connections old.next_id old.rechecks c.args.conn c.in-Some.connection.now (subst P c.self.view_is (sym c.in-Some.ensures.value))
    c.in_default-watching.is)

pub returns-in_default-event : goal.returns-in_default-event
returns-in_default-event g c =
    let old : Running = record { store = c.self.inside.store; policy = g.P.Policy.content c.self.inside.policy; marks = c.self.inside.tracker; connections = c.self.inside.connections.entries; next_id = c.self.inside.next_id; rechecks = c.self.inside.rechecks } in
    let linked = c.in-Some.connection.now in
    let watching = c.get-watching.result.now in
    let shows = c.in-Some-watching.is ∙ ap Some (sym c.get-watching.ensures) in
    let there = sym c.in-Some.ensures.value in
    let P : Running → Type 0 = λ r. Makes r (record old { connections = c.advance_watch.new.connections.entries }) (event.Pump c.args.conn) told.Nothing in
    subst P c.self.view_is
    (λ m h. made_for old.store old.policy old.marks old.connections old.next_id old.rechecks m old.store old.policy old.marks c.advance_watch.new.connections.entries old.next_id old.rechecks (event.Pump c.args.conn) told.Nothing h
    (pumped_nothing old.store old.policy old.marks old.connections c.advance_watch.new.connections.entries old.next_id old.rechecks c.args.conn linked watching c.next.result.place there shows
    (λ cs p w stands is. ap (option_map (event_reply_of p w)) (ap (option_map event_of) (sym c.in_default-event.is) ∙ c.recheck-event.ensures cs p w is
    ∙ ap (rechecked old.rechecks old.policy w) (c.next.ensures.event cs p w.watch stands is.0)))
    (λ cs p w stands is. (c.next.ensures.place cs p w.watch stands is.0, is.1, is.2, is.3)) (c.advance_watch.ensures linked watching there shows)))

pub returns-in_err-reply : goal.returns-in_err-reply
returns-in_err-reply g c =
    let old = c.args.self.now in
    sends_err old old (event.Pump c.args.conn) c.from_residual.result c.from_residual.ensures.0 (λ m h. (h, pumped_late m c.args.conn))

pub returns : goal.returns
returns g c =
    let old : Running = record { store = c.self.inside.store; policy = g.P.Policy.content c.self.inside.policy; marks = c.self.inside.tracker; connections = c.self.inside.connections.entries; next_id = c.self.inside.next_id; rechecks = c.self.inside.rechecks } in
    let links = c.advance_watch-2.new.connections.entries in
    let linked = c.in-Some.connection.now in
    let watching = c.get-watching.result.now in
    let shows = c.in-Some-watching.is ∙ ap Some (sym c.get-watching.ensures) in
    let reply = c.in_ok-reply.reply in
    let there = sym c.in-Some.ensures.value in
    let IsSent : Running → Bool → List PolicyChange → Type 0 = λ r close changes. Makes r (record old { connections = links }) (event.Pump c.args.conn) (told.Sent (record { bytes = reply.bytes; close = close; policy_changes = changes })) in
    let P : Running → Type 0 = λ r. IsSent r c.closes.result c.nothing.result in
    let Q : List PolicyChange → Type 0 = λ changes. IsSent old c.closes.result changes in
    let R : Bool → Type 0 = λ close. IsSent old close [] in
    subst P c.self.view_is
    (subst Q (sym c.nothing.ensures)
    (subst R (sym c.closes.ensures)
    (λ m h. made_for old.store old.policy old.marks old.connections old.next_id old.rechecks m old.store old.policy old.marks links old.next_id old.rechecks (event.Pump c.args.conn) _ h
    (pumped_event old.store old.policy old.marks old.connections links old.next_id old.rechecks c.args.conn linked watching reply c.next.result.place there shows
    (λ cs p w stands is. ap Some (c.in_ok-reply.ensures cs p w stands is)
    ∙ ap (option_map (event_reply_of p w)) (ap (option_map event_of) (sym c.in-Some-event.is) ∙ c.recheck-event.ensures cs p w is
    ∙ ap (rechecked old.rechecks old.policy w) (c.next.ensures.event cs p w.watch stands is.0)))
    (λ cs p w stands is. (c.next.ensures.place cs p w.watch stands is.0, is.1, is.2, is.3)) (c.advance_watch-2.ensures linked watching there shows)))))
