use Rattle.std.proofs.Common.{◌∙◌, Ok, None, ap, not, subst, sym}
use Rattle.kapi_core.specs.Running.{Running}
use Rattle.kapi_core.specs.Refines.{Turns}
use Rattle.kapi_core.proofs.Turning.{nothing_turned, unmarked_due}
use Rattle.kapi_core.proofs.machine.Core.is_quiet.Goals as goal

pub returns : goal.returns
returns g c = λ yes.
    let now : Running = record { store = c.self.inside.store; policy = g.P.Policy.content c.self.inside.policy; marks = c.self.inside.tracker; connections = c.self.inside.connections.entries; next_id = c.self.inside.next_id; rechecks = c.self.inside.rechecks } in
    let P : Running → Type 0 = λ r. Turns r r (Ok None) in
    subst P c.self.view_is (nothing_turned now now.marks (unmarked_due now.store now.marks (ap not (sym c.has_marks.ensures) ∙ yes)) (λ v. v))
