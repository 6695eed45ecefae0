use Rattle.std.proofs.Common.{◌≡◌, map}
use Rattle.std.specs.List.{range_with_len}
use Rattle.kapi_report.specs.Reports.{width}
use Rattle.kapi_report.proofs.columns.widths.Given as goal

-- the widths so far
abbrev pub invariant-loop-column : goal.invariant-loop-column
invariant-loop-column l = l.widths.items ≡ map (width l.heads l.rows) (range_with_len 0 l.column)
