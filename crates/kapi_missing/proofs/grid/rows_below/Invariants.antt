use Rattle.std.proofs.Common.{◌≡◌, ◌<◌, ◌+◌, ◌*◌, ◌&&◌, ℕ, true, take}
use Rattle.kapi_missing.specs.Private.Grid.{are_below}
use Rattle.kapi_missing.specs.Private.Numbers.{has_number}
use Rattle.kapi_missing.proofs.grid.rows_below.Given as goal

abbrev pub invariant-loop-row : goal.invariant-loop-row
invariant-loop-row l = ((p q : ℕ) → q < l.size → has_number l.below.items (p * l.size + q) ≡ (has_number (take l.row-index l.rows) p && has_number l.places q))
    × ((b : ℕ) → are_below b l.rows ≡ true → are_below (b * l.size) l.below.items ≡ true)
