use Rattle.std.proofs.Common.{◌≡◌, ◌<◌, ℕ, length, take}
use Rattle.kapi_paths.specs.Bound.{IsMarked}
use Rattle.kapi_paths.specs.Chains.{Has}
use Rattle.kapi_paths.proofs.bound.mark_each.Given as goal

abbrev pub invariant-loop-position : goal.invariant-loop-position
invariant-loop-position l = record {
  kept : (i : ℕ) → IsMarked l.initial.marks.items i → IsMarked l.marks.items i;
  marked : (i : ℕ) → Has (take l.position-index l.positions) i → i < length l.initial.marks.items → IsMarked l.marks.items i;
  length : length l.marks.items ≡ length l.initial.marks.items;
}
