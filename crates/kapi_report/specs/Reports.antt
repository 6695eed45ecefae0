-- Rows as they are printed; what is no printable ASCII is escaped in cells.
use Rattle.std.specs.Prelude.{ℕ, ◌-◌, ◌==◌, max, min, Bool, if◌then◌else◌, List, [], ◌∷◌, ◌++◌, length, map, replicate, codes}
use Rattle.std.specs.List.{enumerate_from, flat_map, fold, list_any, range_with_len, repeat, slice_get}
use Rattle.std.specs.Option.{option_map_or}
use Rattle.kapi_lines.specs.Escapes.{escaped_byte}
use Rattle.kapi_lines.specs.declared.form.Form.{Form}
use Rattle.kapi_lines.specs.declared.form.Form.TheVariants as form
use Rattle.kapi_report.specs.declared.rows.Words.{Words}

-- a row: its cells, and what it is as a JSON object
pub record Told : Type 0 where
  pub cells : List (List ℕ)
  pub object : List ℕ

-- the row of words that are known
abbrev pub told_words : Words → Told
told_words w = record { cells = map (λ s. s.now) w.cells.now; object = w.object.now }

-- ---- columns

-- the length of the cell in a column, or 256 if it is longer
abbrev pub len_at : ℕ → List (List ℕ) → ℕ
len_at column cells = option_map_or (λ cell. min (length cell) 256) (slice_get cells column) 0

-- the width of a column: that of its longest cell, up to 256
abbrev pub width : List (List ℕ) → List (List (List ℕ)) → ℕ → ℕ
width heads rows column = fold (λ w cells. max w (len_at column cells)) (len_at column heads) rows

-- the widths of the columns but the last
abbrev pub widths : List (List ℕ) → List (List (List ℕ)) → List ℕ
widths heads rows = map (width heads rows) (range_with_len 0 (length heads - 1))

-- a cell with spaces up to the width of its column, and two more; nothing stands behind the last cell
abbrev pub padded : List ℕ → ℕ × List ℕ → List ℕ
padded known cell = cell.1 ++ option_map_or (λ w. replicate (w - length cell.1) 32 ++ codes "  ") (slice_get known cell.0) []

-- the line of a row
abbrev pub line : List ℕ → List (List ℕ) → List ℕ
line known cells = flat_map (padded known) (enumerate_from 0 cells) ++ 10 ∷ []

-- the lines of rows below their heads
unfoldable pub columns : List (List ℕ) → List (List (List ℕ)) → List ℕ
columns heads rows = flat_map (line (widths heads rows)) (heads ∷ rows)

-- ---- Markdown (GitHub Flavored Markdown, 'Tables')

-- a byte that begins or ends a cell, HTML, a link or emphasis
abbrev pub is_mark : ℕ → Bool
is_mark b = list_any (λ m. m == b) (codes "&*.:<>[]_`|~")

-- a byte of a cell: a mark has a backslash before it
abbrev pub piped : ℕ → List ℕ
piped b = if is_mark b then 92 ∷ b ∷ [] else b ∷ []

-- a cell, and the bar behind it
abbrev pub barred : List ℕ → List ℕ
barred cell = 32 ∷ (flat_map piped cell ++ 32 ∷ 124 ∷ [])

-- the line of a row
abbrev pub bars : List (List ℕ) → List ℕ
bars cells = 124 ∷ (flat_map barred cells ++ 10 ∷ [])

-- the line below the heads
abbrev pub dashes : List (List ℕ) → List ℕ
dashes heads = 124 ∷ (repeat (length heads) (codes "---|") ++ 10 ∷ [])

-- the lines of rows below their heads
abbrev pub markdown : List (List ℕ) → List (List (List ℕ)) → List ℕ
markdown heads rows = bars heads ++ (dashes heads ++ flat_map bars rows)

-- ---- in printable ASCII

-- a byte: as scripts escape it, and a number sign as an escape
abbrev pub printable_byte : ℕ → List ℕ
printable_byte b = if b == 35 then codes "\\x23" else escaped_byte b

-- a text; it begins with no space and no colon, so that a line which begins with it is no command of a CI system (GitHub Actions,
-- 'Workflow commands for GitHub Actions': `::NAME::` at the begin of a line, `##[NAME]` anywhere)
unfoldable pub printable : List ℕ → List ℕ
printable [] = []
printable (b ∷ bs) =
    if b == 32 then codes "\\x20" ++ flat_map printable_byte bs
    else (if b == 58 then codes "\\x3a" ++ flat_map printable_byte bs else flat_map printable_byte (b ∷ bs))

-- the cells of a row in printable ASCII
abbrev pub shown : List (List ℕ) → List (List ℕ)
shown cells = map printable cells

-- ---- by the form

-- rows below their heads
abbrev pub table : Form → List (List ℕ) → List (List (List ℕ)) → List ℕ
table form.Markdown heads rows = markdown heads rows
table other heads rows = columns heads rows

-- a row as JSON
abbrev pub object_line : Told → List ℕ
object_line row = row.object ++ 10 ∷ []

-- rows below their heads, or some words if there are none; as JSON an object a line
unfoldable pub report : Form → List (List ℕ) → List ℕ → List Told → List ℕ
report form.Json heads none rows = flat_map object_line rows
report other heads none rows = if length rows == 0 then none else table other (shown heads) (map (λ r. shown r.cells) rows)
