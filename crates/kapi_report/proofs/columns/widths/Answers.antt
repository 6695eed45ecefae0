use Rattle.std.proofs.Common.{arith}
use Rattle.std.proofs.lemmas.Grind.{common_steps}
use Rattle.std.proofs.lemmas.List.FromFn.{map-range_with_len_more}
use Rattle.kapi_report.specs.Reports.{width}
use Rattle.kapi_report.proofs.columns.widths.Goals as goal

pub loop-column-preserved : goal.loop-column-preserved
loop-column-preserved c = grind (arith, common_steps, map-range_with_len_more (width c.args.heads.now c.args.rows.now) 0 c.loop-column.column c.loop-column.column (omega arith))
