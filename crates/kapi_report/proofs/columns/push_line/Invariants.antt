use Rattle.std.proofs.Common.{◌≡◌, ◌++◌, drop}
use Rattle.std.specs.List.{enumerate_from, flat_map}
use Rattle.kapi_report.specs.Reports.{padded}
use Rattle.kapi_report.proofs.columns.push_line.Given as goal

-- with the cells that are left all are written
abbrev pub invariant-loop-column : goal.invariant-loop-column
invariant-loop-column l =
    l.text.items ++ flat_map (padded l.widths) (enumerate_from l.column (drop l.column l.cells)) ≡ l.initial.text.items ++ flat_map (padded l.widths) (enumerate_from 0 l.cells)
