use Rattle.std.proofs.Common.{subst}
use Rattle.kapi_core.specs.Running.{Running}
use Rattle.kapi_core.specs.Refines.{Makes}
use Rattle.kapi_core.specs.declared.event.Event.TheVariants as event
use Rattle.kapi_core.specs.declared.event.Answer.TheVariants as told
use Rattle.kapi_core.proofs.Steps.{made_for, closed}
use Rattle.kapi_core.proofs.machine.Core.close.Goals as goal

pub returns : goal.returns
returns g c =
    let old : Running = record { store = c.self.inside.store; policy = g.P.Policy.content c.self.inside.policy; marks = c.self.inside.tracker; connections = c.self.inside.connections.entries; next_id = c.self.inside.next_id; rechecks = c.self.inside.rechecks } in
    let P : Running → Type 0 = λ r. Makes r (record old { connections = c.remove.new.self.entries }) (event.Close c.args.conn) told.Done in
    subst P c.self.view_is
    (λ m h. made_for old.store old.policy old.marks old.connections old.next_id old.rechecks m old.store old.policy old.marks c.remove.new.self.entries old.next_id old.rechecks (event.Close c.args.conn) told.Done h
    (closed old.store old.policy old.marks old.connections c.remove.new.self.entries old.next_id old.rechecks c.args.conn c.remove.ensures.entries))
