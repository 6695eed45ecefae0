use Rattle.std.proofs.Common.{subst}
use Rattle.kapi_core.specs.Running.{Running}
use Rattle.kapi_core.specs.Refines.{Loads}
use Rattle.kapi_core.proofs.Loads.{loaded}
use Rattle.kapi_core.proofs.machine.Core.load.Goals as goal

pub returns : goal.returns
returns g c =
    let old : Running = record { store = c.self.inside.store; policy = g.P.Policy.content c.self.inside.policy; marks = c.self.inside.tracker; connections = c.self.inside.connections.entries; next_id = c.self.inside.next_id; rechecks = c.self.inside.rechecks } in
    let next : Running = record old { store = c.load_object.new.store; policy = g.P.Policy.content c.load_object.new.policy; marks = c.load_object.new.tracker } in
    let P : Running → Type 0 = λ r. Loads r next c.args.text.now c.load_object.result in
    subst P c.self.view_is (loaded old c.load_object.new.store (g.P.Policy.content c.load_object.new.policy) c.load_object.new.tracker c.args.text.now c.load_object.result c.load_object.ensures)
