use Rattle.std.proofs.Common.{◌≡◌, ◌++◌, take}
use Rattle.std.specs.List.{flat_map}
use Rattle.kapi_report.specs.Reports.{line, widths}
use Rattle.kapi_report.proofs.columns.push_columns.Given as goal

-- the lines of the rows so far
abbrev pub invariant-loop-row : goal.invariant-loop-row
invariant-loop-row l = l.text.items ≡ l.initial.text.items ++ flat_map (line (widths l.heads l.rows)) (take l.row-index l.rows)
