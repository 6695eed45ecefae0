use Rattle.std.proofs.Common.{◌≡◌, ◌++◌, map, take}
use Rattle.std.specs.List.{flat_map}
use Rattle.kapi_report.specs.Reports.{object_line}
use Rattle.kapi_report.proofs.rows.push_objects.Given as goal

-- the lines of the rows so far
abbrev pub invariant-loop-row : goal.invariant-loop-row
invariant-loop-row g l = l.text.items ≡ l.initial.text.items ++ flat_map object_line (map g.R.Row.told (take l.row-index l.rows))
