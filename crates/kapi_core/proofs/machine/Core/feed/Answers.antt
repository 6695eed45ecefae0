use Rattle.std.proofs.Common.{subst}
use Rattle.kapi_core.specs.Running.{Running}
use Rattle.kapi_core.specs.Refines.{TakesIn}
use Rattle.kapi_core.proofs.Feeding.{taken_in}
use Rattle.kapi_core.proofs.machine.Core.feed.Goals as goal

pub returns : goal.returns
returns g c =
    let old : Running = record { store = c.self.inside.store; policy = g.P.Policy.content c.self.inside.policy; marks = c.self.inside.tracker; connections = c.self.inside.connections.entries; next_id = c.self.inside.next_id; rechecks = c.self.inside.rechecks } in
    let P : Running → Type 0 = λ r. TakesIn r (record old { connections = c.feed_at.new.connections.entries }) c.args.conn c.args.piece.now c.feed_at.result in
    subst P c.self.view_is (taken_in old c.feed_at.new.connections.entries c.args.conn c.args.piece.now c.feed_at.result c.feed_at.ensures)
