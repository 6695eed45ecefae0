use Rattle.std.proofs.Common.{◌≡◌, ◌||◌, ℕ, take}
use Rattle.kapi_missing.specs.Private.Index.{has_beginning}
use Rattle.kapi_missing.specs.Private.Numbers.{some_has}
use Rattle.kapi_missing.proofs.rows.push_beginnings.Given as goal

abbrev pub invariant-loop-length : goal.invariant-loop-length
invariant-loop-length l = (n : ℕ) → some_has l.row.items n ≡ (some_has l.initial.row.items n || has_beginning l.sets (take l.length-index l.lengths) l.url n)
