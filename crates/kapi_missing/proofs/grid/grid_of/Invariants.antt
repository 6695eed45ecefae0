use Rattle.std.proofs.Common.{◌≡◌, ◌+◌, List, length, take}
use Rattle.kapi_missing.specs.Private.Grid.{AreGridColumns, IsGrid, IsMarked}
use Rattle.kapi_missing.specs.Private.Index.{IsIndex}
use Rattle.kapi_missing.specs.Private.Stoppers.{Stopper}
use Rattle.kapi_missing.proofs.grid.grid_of.Given as goal

abbrev pub invariant-loop-number : goal.invariant-loop-number
invariant-loop-number l = IsGrid l.grid
    × (((all : List Stopper) → IsIndex all l.rules → length all ≡ length l.held + length l.wanted → AreGridColumns all l.grid.columns)
    × ((all : List Stopper) → IsIndex all l.rules → length all ≡ length l.held + length l.wanted → IsMarked (take l.number all) l.grid.columns l.grid.marks.items))
