use Rattle.std.proofs.Common.{◌≡◌, length}
use Rattle.kapi_core.specs.Table.{rows_differ}
use Rattle.kapi_core.proofs.table.rows_differ.Given as goal

abbrev pub decreases-loop-rest : goal.decreases-loop-rest
decreases-loop-rest l = length l.rest

abbrev pub invariant-loop-rest : goal.invariant-loop-rest
invariant-loop-rest l = rows_differ l.rest ≡ rows_differ l.table
