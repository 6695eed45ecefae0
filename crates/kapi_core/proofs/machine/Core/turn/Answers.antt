use Rattle.std.proofs.Common.{Option, None, Ok, subst}
use Rattle.kapi_aggregation.specs.declared.turn.Turn.{Turn}
use Rattle.kapi_core.specs.Running.{Running}
use Rattle.kapi_core.specs.Refines.{Turns}
use Rattle.kapi_core.proofs.RunsOut.{turns_err}
use Rattle.kapi_core.proofs.Turning.{IsDue, kept_due, nothing_turned, turned_into}
use Rattle.kapi_core.proofs.machine.Core.turn.Goals as goal

pub returns-in_err-turn : goal.returns-in_err-turn
returns-in_err-turn g c =
    let old : Running = record { store = c.self.inside.store; policy = g.P.Policy.content c.self.inside.policy; marks = c.self.inside.tracker; connections = c.self.inside.connections.entries; next_id = c.self.inside.next_id; rechecks = c.self.inside.rechecks } in
    let next : Running = record old { marks = c.next_turn.new.self } in
    let P : Running → Type 0 = λ r. Turns r next c.from_residual.result in
    subst P c.self.view_is (turns_err old next c.from_residual.result c.from_residual.ensures.0 (kept_due old c.next_turn.new.self c.in_err-turn.ensures.covers))

pub returns-in_default : goal.returns-in_default
returns-in_default g c =
    let old : Running = record { store = c.self.inside.store; policy = g.P.Policy.content c.self.inside.policy; marks = c.self.inside.tracker; connections = c.self.inside.connections.entries; next_id = c.self.inside.next_id; rechecks = c.self.inside.rechecks } in
    let next : Running = record old { marks = c.next_turn.new.self } in
    let P : Running → Type 0 = λ r. Turns r next (Ok None) in
    let Due : Option Turn → Type 0 = IsDue old.store old.marks in
    subst P c.self.view_is (nothing_turned old c.next_turn.new.self (subst Due c.in_default.is c.in_ok-turn.ensures.exact) c.in_ok-turn.ensures.covers)

pub returns : goal.returns
returns g c =
    let old : Running = record { store = c.self.inside.store; policy = g.P.Policy.content c.self.inside.policy; marks = c.self.inside.tracker; connections = c.self.inside.connections.entries; next_id = c.self.inside.next_id; rechecks = c.self.inside.rechecks } in
    let next : Running = record old { store = c.make_turn.new.store; policy = g.P.Policy.content c.make_turn.new.policy; marks = c.make_turn.new.tracker } in
    let P : Running → Type 0 = λ r. Turns r next c.make_turn.result in
    let Due : Option Turn → Type 0 = IsDue old.store old.marks in
    subst P c.self.view_is
    (turned_into old c.next_turn.new.self next.store next.policy next.marks c.in-Some.turn c.make_turn.result
    (subst Due c.in-Some.is c.in_ok-turn.ensures.exact) c.in_ok-turn.ensures.covers c.make_turn.ensures)
