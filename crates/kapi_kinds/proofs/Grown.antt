-- Tables that grow by the rows of some objects, and then of others.
use Rattle.std.proofs.Common.{◌≡◌, ◌∙◌, ◌==◌, ◌+◌, ◌<◌, ◌++◌, ℕ, Bool, true, false, ◌&&◌, if◌then◌else◌, List, [], ◌∷◌, add-one, append-nil, append_assoc, drop, drop-cons, get_or, length, map, Option, Some, None, option_and_then, option_map, refl, ap, sym, arith}
use Rattle.std.proofs.lemmas.Bool.Decides.{nat_tests}
use Rattle.std.specs.List.{list_any}
use Rattle.serde_json.specs.Data.{Data}
use Rattle.kapi_model.specs.declared.row.ResourceRow.{ResourceRow}
use Rattle.kapi_core.specs.Table.{is_like, rows_differ}
use Rattle.kapi_manifests.specs.Files.{bad_pieces, objects_of, sum_of}
use Rattle.kapi_manifests.specs.Written.{objects_in_all}
use Rattle.kapi_kinds.specs.Rows.{row_in}
use Rattle.kapi_kinds.specs.Tables.{added, grown, is_joined, kept, rows_of, rows_read}
use Rattle.kapi_kinds.specs.declared.table.Gathered.{Gathered}
use Rattle.kapi_kinds.proofs.Joined.{joined_more, none_joined}

-- rows behind others, if there are both
abbrev both : Option (List ResourceRow) → Option (List ResourceRow) → Option (List ResourceRow)
both a b = option_and_then (λ rows. option_map (λ more. rows ++ more) b) a

-- ---- the rows of objects

same_rows : (b : Option (List ResourceRow)) → b ≡ option_map (λ more. more) b
same_rows None = refl
same_rows (Some rows) = refl

one_first : (row : ResourceRow) (a b : Option (List ResourceRow))
    → option_map (λ rows. row ∷ rows) (both a b) ≡ both (option_map (λ rows. row ∷ rows) a) b
one_first row None b = refl
one_first row (Some rows) None = refl
one_first row (Some rows) (Some more) = refl

rows_more : (ds es : List Data) → rows_of (ds ++ es) ≡ both (rows_of ds) (rows_of es)
unfolding rows_of
rows_more [] es = same_rows (rows_of es)
rows_more (d ∷ ds) es = by_case (rows_more ds es) (row_in d)
  where
    by_case : rows_of (ds ++ es) ≡ both (rows_of ds) (rows_of es) → (o : Option ResourceRow)
        → option_and_then (λ row. option_map (λ rows. row ∷ rows) (rows_of (ds ++ es))) o
        ≡ both (option_and_then (λ row. option_map (λ rows. row ∷ rows) (rows_of ds)) o) (rows_of es)
    by_case more None = refl
    by_case more (Some row) = ap (option_map (λ rows. row ∷ rows)) more ∙ one_first row (rows_of ds) (rows_of es)

read_more : (n m : ℕ) (ds es : List Data) → rows_read (n + m) (ds ++ es) ≡ both (rows_read n ds) (rows_read m es)
read_more n m ds es =
    let none : (n + m == 0) ≡ ((n == 0) && (m == 0)) = grind (arith, nat_tests) in
    rw (none, rows_more ds es) (by_case (n == 0) (m == 0) (rows_of ds) (rows_of es))
  where
    by_case : (s t : Bool) (a b : Option (List ResourceRow))
        → (if s && t then both a b else None) ≡ both (if s then a else None) (if t then b else None)
    by_case true true a b = refl
    by_case true false None b = refl
    by_case true false (Some rows) b = refl
    by_case false t a b = refl

-- ---- the table

added_more : (table : List ResourceRow) (a b : Option (List ResourceRow))
    → option_and_then (λ grew. option_and_then (λ rows. added rows grew) b) (option_and_then (λ rows. added rows table) a)
    ≡ option_and_then (λ rows. added rows table) (both a b)
added_more table None b = refl
added_more table (Some rows) None = by_case (is_joined table rows)
  where
    by_case : (t : Bool) → option_and_then {U = List ResourceRow} (λ grew. None) (if t then Some (table ++ rows) else None) ≡ None
    by_case true = refl
    by_case false = refl
added_more table (Some rows) (Some more) =
    rw (joined_more table rows more, ← append_assoc table rows more) (by_case (is_joined table rows))
  where
    by_case : (t : Bool) → option_and_then (λ grew. added more grew) (if t then Some (table ++ rows) else None)
        ≡ (if t && is_joined (table ++ rows) more then Some ((table ++ rows) ++ more) else None)
    by_case true = refl
    by_case false = refl

-- a table that grows by some objects and then by others grows by all
pub grown_more : (n m : ℕ) (ds es : List Data) (o : Option (List ResourceRow))
    → option_and_then (grown m es) (option_and_then (grown n ds) o) ≡ option_and_then (grown (n + m) (ds ++ es)) o
grown_more n m ds es None = refl
grown_more n m ds es (Some table) =
    added_more table (rows_read n ds) (rows_read m es) ∙ ap (option_and_then (λ rows. added rows table)) (sym (read_more n m ds es))

-- a table that grows by nothing stays
pub grown_none : (o : Option (List ResourceRow)) → option_and_then (grown 0 []) o ≡ o
unfolding rows_of
grown_none None = refl
grown_none (Some table) = rw (none_joined table, append-nil table) refl

-- a table that grows by all grows by the first, and then by the others
pub grown_next : (o p q : Option (List ResourceRow)) (n m k : ℕ) (ds es fs : List Data) → k ≡ n + m → fs ≡ ds ++ es
    → option_and_then (grown k fs) o ≡ q → p ≡ option_and_then (grown n ds) o → option_and_then (grown m es) p ≡ q
grown_next o p q n m k ds es fs number objects all first =
    rw first (grown_more n m ds es o ∙ rw (← number, ← objects) all)

pub dropped : {X : Type 0} (xs : List X) (i : ℕ) (x : X) → i < length xs → drop i xs ≡ get_or xs i x ∷ drop (i + 1) xs
dropped xs i x below = rw add-one (drop-cons xs i x below)

-- a table that grows by files grows by the first of them, and then by the others
pub files_next : {X : Type 0} (text : X → List ℕ) (o p q : Option (List ResourceRow)) (xs : List X) (i : ℕ) (x : X) → i < length xs
    → option_and_then (grown (sum_of bad_pieces (map text (drop i xs))) (objects_in_all (map text (drop i xs)))) o ≡ q
    → p ≡ option_and_then (grown (bad_pieces (text (get_or xs i x))) (objects_of (text (get_or xs i x)))) o
    → option_and_then (grown (sum_of bad_pieces (map text (drop (i + 1) xs))) (objects_in_all (map text (drop (i + 1) xs)))) p ≡ q
files_next text o p q xs i x below all first =
    let rest : map text (drop i xs) ≡ text (get_or xs i x) ∷ map text (drop (i + 1) xs) = ap (map text) (dropped xs i x below) in
    grown_next o p q (bad_pieces (text (get_or xs i x))) (sum_of bad_pieces (map text (drop (i + 1) xs))) _ (objects_of (text (get_or xs i x))) (objects_in_all (map text (drop (i + 1) xs))) _
    (ap (sum_of bad_pieces) rest) (ap objects_in_all rest) all first

-- a table does not grow if a piece is at fault
pub refused : (old new : Gathered) (n : ℕ) → new.rows ≡ old.rows → length new.faults.items ≡ length old.faults.items + n
    → kept new ≡ option_and_then (grown n []) (kept old)
unfolding rows_of
refused old new n rows faults =
    let none : (length new.faults.items == 0) ≡ ((length old.faults.items == 0) && (n == 0)) = rw faults (grind (arith, nat_tests)) in
    rw (none, rows) (by_case (length old.faults.items == 0) (n == 0))
  where
    table : List ResourceRow
    table = old.rows.items

    by_case : (s t : Bool) → (if s && t then Some table else None)
        ≡ option_and_then (λ grew. option_and_then (λ more. added more grew) (if t then Some [] else None)) (if s then Some table else None)
    by_case true true = rw (none_joined table, append-nil table) refl
    by_case true false = refl
    by_case false t = refl

no_row : (o : Option (List ResourceRow)) (d : Data) → None ≡ row_in d → None ≡ option_and_then (grown 0 (d ∷ [])) o
unfolding rows_of
no_row None d none = refl
no_row (Some table) d none = rw (← none) refl

-- a table does not grow by an object that names no resource type
pub nameless : (old new : Gathered) (d : Data) → length new.faults.items ≡ length old.faults.items + 1 → None ≡ row_in d
    → kept new ≡ option_and_then (grown 0 (d ∷ [])) (kept old)
nameless old new d faults none =
    let some : (length new.faults.items == 0) ≡ false = rw faults (grind (arith, nat_tests)) in rw some (no_row (kept old) d none)

-- a table grows by the row of an object that names one
pub named : (o : Option (List ResourceRow)) (row : ResourceRow) (d : Data) → Some row ≡ row_in d
    → option_and_then (added (row ∷ [])) o ≡ option_and_then (grown 0 (d ∷ [])) o
unfolding rows_of
named None row d is = refl
named (Some table) row d is = rw (← is) refl

-- a table grows by a row that is like none of it
pub joins : (rows : List ResourceRow) (row : ResourceRow) (clean : Bool) → list_any (λ other. is_like other row) rows ≡ false
    → (if clean then Some (rows ++ row ∷ []) else None) ≡ option_and_then (added (row ∷ [])) (if clean then Some rows else None)
unfolding rows_differ
joins rows row true unlike = rw unlike refl
joins rows row false unlike = refl
