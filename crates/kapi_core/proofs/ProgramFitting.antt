-- The programs' table is one that can be served.
use Rattle.std.proofs.Common.{◌≡◌, true, refl}
use Rattle.kapi_core.specs.Table.{fits, is_row, required_rows, rows_differ}
use Rattle.kapi_core.specs.ProgramTable.{open_rows, program_rows}

pub program_rows_fit : fits program_rows ≡ true
unfolding required_rows open_rows program_rows is_row rows_differ
program_rows_fit = refl
