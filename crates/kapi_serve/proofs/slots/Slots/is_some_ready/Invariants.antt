use Rattle.std.specs.Prelude.{◌<◌, ℕ, length}
use Rattle.kapi_serve.proofs.Quiet.{IsQuietAt}
use Rattle.kapi_serve.proofs.slots.Slots.is_some_ready.Given as goal

-- no slot before this one has an event
abbrev pub invariant-loop-slot : goal.invariant-loop-slot
invariant-loop-slot l = (i : ℕ) → i < l.slot → i < length l.self.streams.items → IsQuietAt l.self.streams.items i
