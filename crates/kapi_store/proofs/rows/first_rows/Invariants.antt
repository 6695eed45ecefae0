use Rattle.kapi_store.specs.Private.FirstRows.{AreFirstOf}
use Rattle.kapi_store.proofs.rows.first_rows.Given as goal

abbrev pub invariant-loop-position : goal.invariant-loop-position
invariant-loop-position l = AreFirstOf l.first l.rows l.position
