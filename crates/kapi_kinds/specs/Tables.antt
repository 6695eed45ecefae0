-- The table of the resource types that files of kinds name, behind those of the programs.
use Rattle.std.specs.Prelude.{ℕ, ◌==◌, Bool, not, ◌&&◌, if◌then◌else◌, List, [], ◌∷◌, ◌++◌, length, Option, Some, None, option_and_then, option_map}
use Rattle.std.specs.List.{list_any}
use Rattle.serde_json.specs.Data.{Data}
use Rattle.kapi_model.specs.declared.row.ResourceRow.{ResourceRow}
use Rattle.kapi_core.specs.ProgramTable.{program_rows}
use Rattle.kapi_core.specs.Table.{fits, is_like, rows_differ}
use Rattle.kapi_manifests.specs.Files.{bad_pieces, sum_of}
use Rattle.kapi_manifests.specs.Written.{objects_in_all}
use Rattle.kapi_kinds.specs.Rows.{row_in}
use Rattle.kapi_kinds.specs.declared.fault.Fault.{Fault}
use Rattle.kapi_kinds.specs.declared.table.Gathered.{Gathered}
use Rattle.kapi_kinds.specs.declared.table.Kinds.{Kinds}
use Rattle.kapi_kinds.specs.declared.table.Kinds.TheVariants as kinds

-- the resource types that objects name, if each names one
unfoldable pub rows_of : List Data → Option (List ResourceRow)
rows_of [] = Some []
rows_of (d ∷ ds) = option_and_then (λ row. option_map (λ rows. row ∷ rows) (rows_of ds)) (row_in d)

-- the resource types that objects name, where none of so many pieces is at fault and each object names one
abbrev pub rows_read : ℕ → List Data → Option (List ResourceRow)
rows_read bad ds = if (bad == 0) then rows_of ds else None

-- the resource types that files name, if each piece is the text of an object and each object names one
abbrev pub rows_in : List (List ℕ) → Option (List ResourceRow)
rows_in files = rows_read (sum_of bad_pieces files) (objects_in_all files)

-- the table of the programs with these rows, if it can be served
abbrev pub if_fits : List ResourceRow → Option (List ResourceRow)
if_fits rows = if fits (program_rows ++ rows) then Some (program_rows ++ rows) else None

-- the table of the programs and of files, if there is one that can be served
abbrev pub table_in : List (List ℕ) → Option (List ResourceRow)
table_in files = option_and_then if_fits (rows_in files)

-- ---- as the code has them

abbrev pub model_of_table : Kinds → Option (List ResourceRow)
model_of_table (kinds.Table t) = Some t
model_of_table (kinds.Faults fs) = None

abbrev pub model_of_faults : Kinds → List Fault
model_of_faults (kinds.Table t) = []
model_of_faults (kinds.Faults fs) = fs.items

-- the rows so far, if nothing is wrong
abbrev pub kept : Gathered → Option (List ResourceRow)
kept g = if (length g.faults.items == 0) then Some g.rows.items else None

-- no two of the rows are alike, and none is like one of the table
abbrev pub is_joined : List ResourceRow → List ResourceRow → Bool
is_joined table rows = rows_differ rows && not (list_any (λ row. list_any (λ other. is_like other row) table) rows)

-- the table with more rows, if they join it
abbrev pub added : List ResourceRow → List ResourceRow → Option (List ResourceRow)
added rows table = if is_joined table rows then Some (table ++ rows) else None

-- the table with the rows of objects, where none of so many pieces is at fault
abbrev pub grown : ℕ → List Data → List ResourceRow → Option (List ResourceRow)
grown bad ds table = option_and_then (λ rows. added rows table) (rows_read bad ds)
