use Rattle.std.proofs.Common.{◌≡◌, drop, max}
use Rattle.std.specs.List.{fold}
use Rattle.kapi_report.specs.Reports.{len_at, width}
use Rattle.kapi_report.proofs.columns.width.Given as goal

-- the rows that are left make the width that of all
abbrev pub invariant-loop-row : goal.invariant-loop-row
invariant-loop-row l = fold (λ w cells. max w (len_at l.column cells)) l.width (drop l.row-index l.rows) ≡ width l.heads l.rows l.column
