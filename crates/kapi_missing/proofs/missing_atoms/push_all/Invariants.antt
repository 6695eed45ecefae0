use Rattle.std.proofs.Common.{◌≡◌, ◌+◌, ◌++◌, ℕ, nat_lt, length, take}
use Rattle.kapi_rules.specs.Missing.{missing}
use Rattle.kapi_missing.specs.Private.Grid.{AreGridColumns, IsGrid, IsMarked}
use Rattle.kapi_missing.specs.Private.Index.{IsIndex}
use Rattle.kapi_missing.specs.Private.Numbers.{has_bit}
use Rattle.kapi_missing.specs.Private.Stoppers.{stoppers}
use Rattle.kapi_missing.proofs.missing_atoms.push_all.Given as goal

abbrev pub invariant-loop-position : goal.invariant-loop-position
invariant-loop-position l = ((n : ℕ) → has_bit l.before.items n ≡ nat_lt n (length l.held + l.position))
    × (IsGrid l.grid
    × (IsIndex (stoppers l.held l.wanted) l.rules
    → AreGridColumns (stoppers l.held l.wanted) l.grid.columns
    × (IsMarked (stoppers l.held (take l.position l.wanted)) l.grid.columns l.grid.marks.items × (l.list.items ≡ l.initial.list.items ++ missing l.held (take l.position l.wanted)))))
