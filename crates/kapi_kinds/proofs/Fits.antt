-- Which tables of the programs and of files can be served.
use Rattle.std.proofs.Common.{◌≡◌, ◌==◌, ◌∙◌, ◌++◌, ℕ, Bool, true, false, ◌&&◌, if◌then◌else◌, List, [], ◌∷◌, IfSome, Option, Some, None, option_and_then, refl, ap}
use Rattle.std.specs.List.{list_all}
use Rattle.std.proofs.lemmas.Bool.{and_from, and_parts, or_left}
use Rattle.std.proofs.lemmas.List.Folds.{list_all-append, list_any-append}
use Rattle.serde_json.specs.Data.{Data}
use Rattle.kapi_model.specs.declared.row.ResourceRow.{ResourceRow}
use Rattle.kapi_core.specs.ProgramTable.{program_rows}
use Rattle.kapi_core.specs.Table.{fits, has_row, is_further, is_known, is_row, required_rows, rows_differ}
use Rattle.kapi_core.proofs.ProgramFitting.{program_rows_fit}
use Rattle.kapi_manifests.specs.Files.{bad_pieces, sum_of}
use Rattle.kapi_manifests.specs.Written.{objects_in_all}
use Rattle.kapi_kinds.specs.Rows.{form_in, if_added, is_added, row_in}
use Rattle.kapi_kinds.specs.Tables.{added, grown, if_fits, is_joined, kept, rows_of, rows_read, table_in}
use Rattle.kapi_kinds.specs.declared.table.Gathered.{Gathered}
use Rattle.kapi_kinds.proofs.Joined.{differ_joined}

-- ---- the rows of objects may be added

row_is_further : (o : Option ResourceRow) (row : ResourceRow) → option_and_then if_added o ≡ Some row → is_further row ≡ true
row_is_further None row h = absurd (cc h)
row_is_further (Some form) row h = by_case (is_added form) refl
  where
    by_case : (t : Bool) → is_added form ≡ t → is_further row ≡ true
    by_case true e =
        let same : Some form ≡ Some row = rw e at h in
        let is : form ≡ row = cc in
        rw (← is) (and_parts (is_further form) _ e).0
    by_case false e = let none : None ≡ Some row = rw e at h in absurd (cc none)

rows_are_further : (ds : List Data) (rows : List ResourceRow) → rows_of ds ≡ Some rows → list_all is_further rows ≡ true
unfolding rows_of row_in
rows_are_further [] rows h = let is : rows ≡ [] = cc in rw is refl
rows_are_further (d ∷ ds) rows h = by_row (row_in d) refl (rows_are_further ds)
  where
    by_row : (o : Option ResourceRow) → row_in d ≡ o → ((more : List ResourceRow) → rows_of ds ≡ Some more → list_all is_further more ≡ true)
        → list_all is_further rows ≡ true
    by_row None e later = let none : None ≡ Some rows = rw e at h in absurd (cc none)
    by_row (Some row) e later = by_rest (rows_of ds) refl
      where
        by_rest : (o : Option (List ResourceRow)) → rows_of ds ≡ o → list_all is_further rows ≡ true
        by_rest None f = let none : None ≡ Some rows = rw (e, f) at h in absurd (cc none)
        by_rest (Some more) f =
            let same : Some (row ∷ more) ≡ Some rows = rw (e, f) at h in
            let is : row ∷ more ≡ rows = cc in
            rw (← is) (and_from (is_further row) (list_all is_further more) (row_is_further (form_in d) row e) (later more f))

-- ---- tables

has_more : (table rows wanted : List ResourceRow) → list_all (has_row table) wanted ≡ true → list_all (has_row (table ++ rows)) wanted ≡ true
has_more table rows [] h = refl
has_more table rows (row ∷ wanted) h =
    let parts = and_parts (has_row table row) (list_all (has_row table) wanted) h in
    and_from (has_row (table ++ rows) row) (list_all (has_row (table ++ rows)) wanted)
    (list_any-append (is_row row) table rows ∙ or_left (has_row table row) (has_row rows row) parts.0) (has_more table rows wanted parts.1)

are_known : (rows : List ResourceRow) → list_all is_further rows ≡ true → list_all is_known rows ≡ true
are_known [] h = refl
are_known (row ∷ rows) h =
    let parts = and_parts (is_further row) (list_all is_further rows) h in
    and_from (is_known row) (list_all is_known rows) (or_left (is_further row) _ parts.0) (are_known rows parts.1)

-- a table that can be served can be with more rows if they join it
pub fits_more : (table rows : List ResourceRow) → fits table ≡ true → list_all is_further rows ≡ true → fits (table ++ rows) ≡ is_joined table rows
fits_more table rows fit further =
    let parts = and_parts (list_all (has_row table) required_rows) _ fit in
    let rest = and_parts (list_all is_known table) (rows_differ table) parts.1 in
    let has : list_all (has_row (table ++ rows)) required_rows ≡ true = has_more table rows required_rows parts.0 in
    let known : list_all is_known (table ++ rows) ≡ true = list_all-append is_known table rows ∙ and_from (list_all is_known table) (list_all is_known rows) rest.0 (are_known rows further) in
    let differ : rows_differ (table ++ rows) ≡ is_joined table rows = differ_joined table rows ∙ ap (λ b. b && is_joined table rows) rest.1 in
    rw (has, known, differ) refl

-- the programs' table, grown by the rows of files, is the table of the files
pub grown_is_table : (files : List (List ℕ)) → grown (sum_of bad_pieces files) (objects_in_all files) program_rows ≡ table_in files
grown_is_table files = by_none (sum_of bad_pieces files == 0)
  where
    by_rows : (o : Option (List ResourceRow)) → rows_of (objects_in_all files) ≡ o → option_and_then (λ rows. added rows program_rows) o ≡ option_and_then if_fits o
    by_rows None e = refl
    by_rows (Some rows) e =
        rw (fits_more program_rows rows program_rows_fit (rows_are_further (objects_in_all files) rows e)) refl

    by_none : (t : Bool)
        → option_and_then (λ rows. added rows program_rows) (if t then rows_of (objects_in_all files) else None)
        ≡ option_and_then if_fits (if t then rows_of (objects_in_all files) else None)
    by_none true = by_rows (rows_of (objects_in_all files)) refl
    by_none false = refl

-- what is gathered begins with the programs' table
pub begun : (g : Gathered) → g.rows.items ≡ program_rows → g.faults.items ≡ [] → kept g ≡ Some program_rows
begun g rows faults = rw (faults, rows) refl

-- a table of files can be served
pub table_fits : (files : List (List ℕ)) → IfSome (table_in files) (λ table. fits table ≡ true)
table_fits files = by_rows (rows_read (sum_of bad_pieces files) (objects_in_all files))
  where
    by_fit : (rows : List ResourceRow) (t : Bool) → fits (program_rows ++ rows) ≡ t
        → IfSome (if t then Some (program_rows ++ rows) else None) (λ table. fits table ≡ true)
    by_fit rows true e = e
    by_fit rows false e = tt

    by_rows : (o : Option (List ResourceRow)) → IfSome (option_and_then if_fits o) (λ table. fits table ≡ true)
    by_rows None = tt
    by_rows (Some rows) = by_fit rows (fits (program_rows ++ rows)) refl
