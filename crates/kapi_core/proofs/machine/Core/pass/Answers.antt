use Rattle.std.proofs.Common.{Some, option_map, ap, ◌∙◌, sym, subst}
use Rattle.kapi_answer.specs.Watch.{event_reply_of, rechecked}
use Rattle.kapi_watch.specs.Shown.{event_of}
use Rattle.kapi_core.specs.Running.{Running}
use Rattle.kapi_core.specs.Refines.{Makes}
use Rattle.kapi_core.specs.declared.event.Event.TheVariants as event
use Rattle.kapi_core.specs.declared.event.Answer.TheVariants as told
use Rattle.kapi_core.proofs.Pumping.{pumped_nothing}
use Rattle.kapi_core.proofs.Steps.{made_for}
use Rattle.kapi_core.proofs.machine.Core.pass.Goals as goal

pub returns-in-None-clause-passed : goal.returns-in-None-clause-passed
returns-in-None-clause-passed g c = λ _.
    let old : Running = record { store = c.self.inside.store; policy = g.P.Policy.content c.self.inside.policy; marks = c.self.inside.tracker; connections = c.self.inside.connections.entries; next_id = c.self.inside.next_id; rechecks = c.self.inside.rechecks } in
    let linked = c.in-Some.connection.now in
    let watching = c.get-watching.result.now in
    let shows = c.in-Some-watching.is ∙ ap Some (sym c.get-watching.ensures) in
    let there = sym c.in-Some.ensures.value in
    let P : Running → Type 0 = λ r. Makes r (record old { connections = c.advance_watch.new.connections.entries }) (event.Pump c.args.conn) told.Nothing in
    subst P c.self.view_is
    (λ m h. made_for old.store old.policy old.marks old.connections old.next_id old.rechecks m old.store old.policy old.marks c.advance_watch.new.connections.entries old.next_id old.rechecks (event.Pump c.args.conn) told.Nothing h
    (pumped_nothing old.store old.policy old.marks old.connections c.advance_watch.new.connections.entries old.next_id old.rechecks c.args.conn linked watching c.next.result.place there shows
    (λ cs p w stands is. ap (option_map (event_reply_of p w)) (ap (option_map event_of) (sym c.in-None.is) ∙ c.recheck-event.ensures cs p w is
    ∙ ap (rechecked old.rechecks old.policy w) (c.next.ensures.event cs p w.watch stands is.0)))
    (λ cs p w stands is. (c.next.ensures.place cs p w.watch stands is.0, is.1, is.2, is.3)) (c.advance_watch.ensures linked watching there shows)))
