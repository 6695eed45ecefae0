use Rattle.std.proofs.Common.{arith, subst, Ok, ◌-◌, ◌+◌}
use Rattle.kapi_loading.proofs.Loaded.{all_turned, no_turn_left, turn_made}
use Rattle.kapi_core.specs.Refines.{Turns}
use Rattle.kapi_loading.proofs.loading.make_turns.Goals as goal

pub loop-preserved : goal.loop-preserved
loop-preserved g c =
    let made = subst (λ t. Turns c.loop.core c.turn.new.self (Ok t)) c.in-Some.is c.in_ok-turned.ensures in
    λ seat m stands follows.
    turn_made (g.S.Steps.Follows seat c.loop.steps) (g.S.Steps.Follows seat c.take.new.self) m (64 - c.loop.counter) (64 - (c.loop.counter + 1)) c.loop.core c.turn.new.self c.in-Some.turned
    (omega (arith, c.loop-test.true)) (c.loop.invariant seat m stands follows) made (λ objects h. c.in_ok-take-in-Some.ensures seat objects h)

pub returns-in-None : goal.returns-in-None
returns-in-None g c =
    let none = subst (λ t. Turns c.loop.core c.turn.new.self (Ok t)) c.in-None.is c.in_ok-turned.ensures in
    λ seat m stands follows.
    no_turn_left (g.S.Steps.Follows seat c.loop.steps) m (64 - c.loop.counter) c.loop.core c.turn.new.self (c.loop.invariant seat m stands follows) none

pub returns : goal.returns
returns g c = λ seat m stands follows.
    all_turned (g.S.Steps.Follows seat c.loop.steps) m (64 - c.loop.counter) c.loop.core (omega (arith, c.loop-test.false)) (c.loop.invariant seat m stands follows)
