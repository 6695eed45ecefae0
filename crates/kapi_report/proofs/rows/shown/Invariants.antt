use Rattle.std.proofs.Common.{◌≡◌, take}
use Rattle.kapi_report.specs.Reports.{shown}
use Rattle.kapi_report.proofs.rows.shown.Given as goal

-- the cells so far
abbrev pub invariant-loop-cell : goal.invariant-loop-cell
invariant-loop-cell l = l.list.items ≡ shown (take l.cell-index l.cells)
