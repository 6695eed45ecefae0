use Rattle.std.proofs.Common.{◌≡◌}
use Rattle.std.specs.Prelude.{vec_len}
use Rattle.kapi_serve.specs.Listening.{doors}
use Rattle.kapi_serve.proofs.sockets.Sockets.accept.Given as goal

-- the ports stay
abbrev pub invariant-loop-turn : goal.invariant-loop-turn
invariant-loop-turn g l = (vec_len l.self.listeners ≡ vec_len l.fn.self.listeners) × (doors l.self.listeners.items ≡ doors l.fn.self.listeners.items)
