use Rattle.std.specs.Prelude.{◌<◌, ◌≤◌, ◌-◌, ℕ, length}
use Rattle.kapi_serve.proofs.Quiet.{IsQuietAt}
use Rattle.kapi_serve.proofs.slots.Slots.narrow.Given as goal

-- the slots that were left out have no event
abbrev pub invariant-loop-start : goal.invariant-loop-start
invariant-loop-start l =
    (l.end ≤ length l.self.streams.items)
    × ((i : ℕ) → i < l.start → i < length l.self.streams.items → IsQuietAt l.self.streams.items i)
    × ((i : ℕ) → l.end ≤ i → i < length l.self.streams.items → IsQuietAt l.self.streams.items i)

abbrev pub decreases-loop-start : goal.decreases-loop-start
decreases-loop-start l = l.end - l.start
