use Rattle.std.proofs.Common.{◌≤◌, List, true, length}
use Rattle.kapi_missing.specs.Private.Grid.{AreColumns}
use Rattle.kapi_missing.specs.Private.Index.{IsIndex}
use Rattle.kapi_missing.specs.Private.Left.{Sees}
use Rattle.kapi_missing.specs.Private.Stoppers.{Stopper}
use Rattle.kapi_missing.proofs.grid.add_columns.Given as goal

abbrev pub invariant-loop-part : goal.invariant-loop-part
invariant-loop-part l = (length l.initial.columns.items ≤ 64 → length l.columns.items ≤ 64)
    × ((all : List Stopper) → IsIndex all l.rules → Sees all (λ s. true) l.everyone → AreColumns all l.initial.columns.items → AreColumns all l.columns.items)
