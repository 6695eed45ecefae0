use Rattle.std.proofs.Common.{◌≡◌, ℕ, true, take, length}
use Rattle.kapi_missing.specs.Private.Grid.{are_below, column_has}
use Rattle.kapi_missing.specs.Private.Numbers.{has_number}
use Rattle.kapi_missing.proofs.grid.met.Given as goal

abbrev pub invariant-loop-place : goal.invariant-loop-place
invariant-loop-place l = ((p : ℕ) → has_number l.places.items p ≡ column_has (take l.place l.columns) p l.number) × (are_below (length l.columns) l.places.items ≡ true)
