use Rattle.std.proofs.Common.{◌≡◌, ◌==◌, ◌||◌, ◌&&◌, ℕ, List, take}
use Rattle.std.specs.List.{list_any}
use Rattle.kapi_missing.specs.Private.Index.{has_at, is_any_with}
use Rattle.kapi_missing.proofs.index.put_subresources.Given as goal

abbrev pub invariant-loop-entry : goal.invariant-loop-entry
invariant-loop-entry l = (text : List ℕ) (n : ℕ) → has_at l.sets text n ≡ (has_at l.initial.sets text n || (list_any (is_any_with text) (take l.entry-index l.entries) && (l.this.number == n)))
