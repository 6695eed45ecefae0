use Rattle.std.proofs.Common.{◌≡◌, ◌++◌, map, take}
use Rattle.kapi_report.specs.Reports.{shown}
use Rattle.kapi_report.proofs.rows.push_shown.Given as goal

-- the rows so far
abbrev pub invariant-loop-row : goal.invariant-loop-row
invariant-loop-row g l = l.list.items ≡ l.initial.list.items ++ map (λ r. shown r.cells) (map g.R.Row.told (take l.row-index l.rows))
