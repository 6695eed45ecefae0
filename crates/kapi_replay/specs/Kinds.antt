-- The resource types that the machine of a case serves.
use Rattle.std.specs.Prelude.{ℕ, ◌==◌, Bool, ◌&&◌, List, length, Option}
use Rattle.std.specs.List.{find, list_all}
use Rattle.std.specs.Option.{unwrap_or}
use Rattle.kapi_core.specs.ProgramTable.{program_rows}
use Rattle.kapi_kinds.specs.Tables.{table_in}
use Rattle.kapi_manifests.specs.Files.{bad_pieces, objects_of}
use Rattle.kapi_model.specs.declared.row.ResourceRow.{ResourceRow}
use Rattle.kapi_replay.specs.Manifests.{all_texts}
use Rattle.kapi_transcripts.specs.Files.{texts_named}
use Rattle.kapi_transcripts.specs.declared.case.Case.{Case}
use Rattle.kapi_transcripts.specs.declared.case.Loaded.{Loaded}
use Rattle.kapi_transcripts.specs.declared.files.LoadedFile.{LoadedFile}

-- a text has neither an object nor a fault
abbrev pub is_blank : List ℕ → Bool
is_blank text = length (objects_of text) == 0 && bad_pieces text == 0

abbrev pub are_blank : List (List ℕ) → Bool
are_blank texts = list_all is_blank texts

-- the first file or folder that is not there or holds nothing
abbrev pub first_blank : List LoadedFile → List Loaded → Option Loaded
first_blank loads files = find (λ f. are_blank (texts_named loads f.name)) files

-- the table that the files of kinds of a case make, if they make one
abbrev pub table_of : List LoadedFile → Case → Option (List ResourceRow)
table_of loads c = table_in (all_texts loads c.kinds)

-- the table of a case, or that of the programs if its files of kinds make none
abbrev pub known_table : List LoadedFile → Case → List ResourceRow
known_table loads c = unwrap_or (table_of loads c) program_rows
