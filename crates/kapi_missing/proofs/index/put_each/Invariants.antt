use Rattle.std.proofs.Common.{◌≡◌, ◌==◌, ◌||◌, ◌&&◌, ℕ, List, take}
use Rattle.kapi_missing.specs.Private.Index.{has_at}
use Rattle.kapi_missing.specs.Private.Stoppers.{lists}
use Rattle.kapi_missing.proofs.index.put_each.Given as goal

abbrev pub invariant-loop-entry : goal.invariant-loop-entry
invariant-loop-entry l = (text : List ℕ) (n : ℕ) → has_at l.sets text n ≡ (has_at l.initial.sets text n || (lists (take l.entry-index l.entries) text && (l.this.number == n)))
