use Rattle.std.proofs.Common.{◌≡◌, List, Some, None, ◌∙◌, sym, ap, subst, if◌then◌else◌}
use Rattle.std.specs.BTreeMap.{is_at}
use Rattle.std.specs.Map.{lookup, remove_entry}
use Rattle.std.specs.Ordering.{nat_cmp}
use Rattle.kapi_answer.specs.Responses.{answered_data}
use Rattle.kapi_policy.specs.declared.change.PolicyChange.{PolicyChange}
use Rattle.kapi_store.proofs.Stores.{same_stands}
use Rattle.kapi_store.specs.Plain.{RefinesPlain, plain_of}
use Rattle.kapi_store.specs.State.{State}
use Rattle.kapi_core.specs.Machine.{Machine}
use Rattle.kapi_core.specs.Running.{Running}
use Rattle.kapi_core.specs.Refines.{Makes, Sends}
use Rattle.kapi_core.specs.declared.event.Event.TheVariants as event
use Rattle.kapi_core.specs.declared.event.Answer.TheVariants as told
use Rattle.kapi_core.proofs.RunsOut.{sends_err}
use Rattle.kapi_core.proofs.Steps.{is_idle, is_watching, made_for, served, served_beside, served_late, served_nothing, served_nowhere, watching_fresh}
use Rattle.kapi_core.proofs.machine.Core.serve.Goals as goal

pub returns-in_default : goal.returns-in_default
returns-in_default g c = λ m h.
    let old = c.args.self.now in
    let P : Running → Type 0 = λ r. lookup (is_at (nat_cmp c.args.conn.0)) r.connections ≡ None in
    made_for old.store old.policy old.marks old.connections old.next_id old.rechecks m old.store old.policy old.marks old.connections old.next_id old.rechecks (event.Serve c.args.conn) told.Nothing h
    (served_nowhere old.store old.policy old.marks old.connections old.next_id old.rechecks c.args.conn (subst P c.self.view_is (sym c.in_default.ensures.value)))

pub returns-then-is_some : goal.returns-then-is_some
returns-then-is_some g c = λ m h.
    let old = c.args.self.now in
    let runs = is_watching c.in-Some.connection.now.watching (sym c.is_some.ensures ∙ c.if-is_some.true) in
    let P : Running → Type 0 = λ r. lookup (is_at (nat_cmp c.args.conn.0)) r.connections ≡ Some c.in-Some.connection.now in
    made_for old.store old.policy old.marks old.connections old.next_id old.rechecks m old.store old.policy old.marks old.connections old.next_id old.rechecks (event.Serve c.args.conn) told.Nothing h
    (served_beside old.store old.policy old.marks old.connections old.next_id old.rechecks c.args.conn c.in-Some.connection.now runs.0 (subst P c.self.view_is (sym c.in-Some.ensures.value)) runs.1)

pub returns-in_default-2 : goal.returns-in_default-2
returns-in_default-2 g c = λ m h.
    let old = c.args.self.now in
    let P : Running → Type 0 = λ r. lookup (is_at (nat_cmp c.args.conn.0)) r.connections ≡ Some c.in-Some.connection.now in
    made_for old.store old.policy old.marks old.connections old.next_id old.rechecks m old.store old.policy old.marks old.connections old.next_id old.rechecks (event.Serve c.args.conn) told.Nothing h
    (served_nothing old.store old.policy old.marks old.connections old.next_id old.rechecks c.args.conn c.in-Some.connection.now (subst P c.self.view_is (sym c.in-Some.ensures.value))
    (is_idle c.in-Some.connection.now.watching (sym c.is_some.ensures ∙ c.if-is_some.false))
    (sym c.in_ok-item.ensures ∙ c.in_default-2.is))

pub returns : goal.returns
returns g c =
    let old : Running = record { store = c.self.inside.store; policy = g.P.Policy.content c.self.inside.policy; marks = c.self.inside.tracker; connections = c.self.inside.connections.entries; next_id = c.self.inside.next_id; rechecks = c.self.inside.rechecks } in
    let next : Running = record old { store = c.make_write.new.store; policy = g.P.Policy.content c.make_write.new.policy; marks = c.make_write.new.tracker; connections = c.close_if.new.connections.entries } in
    let there = sym c.in-Some.ensures.value in
    let out = c.in_ok-reply.field-0 in
    let links = c.close_if.ensures
    ∙ ap (λ es. if out.reply.close then remove_entry (is_at (nat_cmp c.args.conn.0)) es else es) (c.finish_request.ensures c.in-Some.connection.now there) in
    let IsSent : Running → List PolicyChange → Type 0 = λ r changes. Makes r next (event.Serve c.args.conn) (told.Sent (record { bytes = out.reply.bytes; close = out.reply.close; policy_changes = changes })) in
    let P : Running → Type 0 = λ r. IsSent r c.in_ok-changes.changes in
    let Q : List PolicyChange → Type 0 = IsSent old in
    subst P c.self.view_is (subst Q (sym c.in_ok-changes.ensures.made)
    (λ m h. made_for old.store old.policy old.marks old.connections old.next_id old.rechecks m next.store next.policy next.marks next.connections next.next_id next.rechecks (event.Serve c.args.conn) _ h
    (served old.store next.store old.policy next.policy old.marks next.marks old.connections next.connections old.next_id old.rechecks c.args.conn c.in-Some.connection.now c.in-Some-2.item
    out.watch (answered_data out) there (is_idle c.in-Some.connection.now.watching (sym c.is_some.ensures ∙ c.if-is_some.false))
    (sym c.in_ok-item.ensures ∙ c.in-Some-2.is) c.in_ok-reply.ensures.gives
    (λ cs. watching_fresh cs (plain_of old.store) out.watch c.in_ok-reply.ensures.fresh)
    (λ cs p stands is covers. c.in_ok-changes.ensures.writes cs p (same_stands _ _ c.in_ok-reply.ensures.same cs p stands) is covers) links)))

pub returns-in_err-item : goal.returns-in_err-item
returns-in_err-item g c =
    let old = c.args.self.now in
    sends_err old old (event.Serve c.args.conn) c.from_residual.result c.from_residual.ensures.0 (λ m h. (h, served_late m c.args.conn))

pub returns-in_err-reply : goal.returns-in_err-reply
returns-in_err-reply g c =
    let old : Running = record { store = c.self.inside.store; policy = g.P.Policy.content c.self.inside.policy; marks = c.self.inside.tracker; connections = c.self.inside.connections.entries; next_id = c.self.inside.next_id; rechecks = c.self.inside.rechecks } in
    let next : Running = record old { store = c.answer.new.store } in
    let P : Running → Type 0 = λ r. Sends r next (event.Serve c.args.conn) c.from_residual-in_err-reply.result in
    subst P c.self.view_is
    (sends_err old next (event.Serve c.args.conn) c.from_residual-in_err-reply.result c.from_residual-in_err-reply.ensures.0
    (λ m h. (record { store = same_stands _ _ c.in_err-reply.ensures.same m.changes m.store h.store; policy_is = h.policy_is; covers = h.covers; next_id = h.next_id; rechecks = h.rechecks; links = h.links }, served_late m c.args.conn)))

pub returns-in_err-changes : goal.returns-in_err-changes
returns-in_err-changes g c =
    let old : Running = record { store = c.self.inside.store; policy = g.P.Policy.content c.self.inside.policy; marks = c.self.inside.tracker; connections = c.self.inside.connections.entries; next_id = c.self.inside.next_id; rechecks = c.self.inside.rechecks } in
    let next : Running = record old { store = c.make_write.new.store; policy = g.P.Policy.content c.make_write.new.policy; marks = c.make_write.new.tracker } in
    let P : Running → Type 0 = λ r. Sends r next (event.Serve c.args.conn) c.from_residual-in_err-changes.result in
    let Kept : Machine → State → Type 0 = λ m s. RefinesPlain s m.changes m.store in
    subst P c.self.view_is
    (sends_err old next (event.Serve c.args.conn) c.from_residual-in_err-changes.result c.from_residual-in_err-changes.ensures.0
    (λ m h. (
      record {
        store = subst (Kept m) (sym c.in_err-changes.ensures.same_store) (same_stands _ _ c.in_ok-reply.ensures.same m.changes m.store h.store);
        policy_is = c.in_err-changes.ensures.same_policy ∙ h.policy_is;
        covers = c.in_err-changes.ensures.covers _ h.covers;
        next_id = h.next_id;
        rechecks = h.rechecks;
        links = h.links;
      },
      served_late m c.args.conn,
    )))
