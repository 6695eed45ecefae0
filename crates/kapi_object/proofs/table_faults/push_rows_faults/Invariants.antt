use Rattle.std.proofs.Common.{◌≡◌, ◌++◌, drop}
use Rattle.serde_json.specs.View.{view}
use Rattle.kapi_object.specs.Shapes.{rows_faults}
use Rattle.kapi_object.proofs.table_faults.push_rows_faults.Given as goal

abbrev pub invariant-loop-row : goal.invariant-loop-row
invariant-loop-row g l =
    l.faults.items ++ rows_faults g.L.Level.faults_below (drop l.row-index l.rows) l.path (view l.tree)
    ≡ l.initial.faults.items ++ rows_faults g.L.Level.faults_below l.rows l.path (view l.tree)
