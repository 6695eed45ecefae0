use Rattle.std.proofs.Common.{◌≡◌, ◌≤◌, ◌-◌}
use Rattle.kapi_serve.specs.Rounds.{AreIdle}
use Rattle.kapi_serve.proofs.slots.Slots.take_turn.Given as goal

-- the listeners so far are idle
abbrev pub invariant-loop-self : goal.invariant-loop-self
invariant-loop-self l = (l.fn.self.turn ≤ l.self.turn) × (l.self.streams ≡ l.fn.self.streams) × AreIdle l.fn.self.turn l.self.turn l.fn.self.streams.items

abbrev pub decreases-loop-self : goal.decreases-loop-self
decreases-loop-self l = l.listeners - l.self.turn
