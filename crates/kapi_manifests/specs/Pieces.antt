-- The pieces of a file: the texts of its objects, and the lines that begin none, in order.
use Rattle.std.specs.Prelude.{ℕ, ◌+◌, ◌-◌, ◌==◌, ◌&&◌, not, List, [], ◌∷◌, ◌++◌, map, take, drop, if◌then◌else◌}
use Rattle.kapi_manifests.specs.Places.{behind, is_piece}
use Rattle.kapi_manifests.specs.declared.cut.Span.{Span}
use Rattle.kapi_manifests.specs.declared.cut.Cursor.{Cursor}
use Rattle.kapi_manifests.specs.declared.reader_state.ReaderState.TheVariants.{Between}

-- a reader at the beginning of a text
abbrev pub at_start : Cursor
at_start = record { place = Between; here = record { line = 1; at = 0 }; begun = record { line = 1; at = 0 } }

-- 1 for the byte that ends a line
abbrev pub line_ends : ℕ → ℕ
line_ends b = if b == 10 then 1 else 0

-- the reader behind a byte
unfoldable pub advanced : Cursor → ℕ → Cursor
advanced c b = record {
  place = behind c.place b;
  here = record { line = c.here.line + line_ends b; at = c.here.at + 1 };
  begun = if is_piece (behind c.place b) && not (is_piece c.place) then c.here else c.begun;
}

-- the piece that ends between two places of a reader
unfoldable pub ended : Cursor → Cursor → List Span
ended c d = if is_piece c.place && not (is_piece d.place) then record { start = c.begun; stop = d.here.at } ∷ [] else []

-- the piece that the end of the text ends
unfoldable pub last : Cursor → List Span
last c = if is_piece c.place then record { start = c.begun; stop = c.here.at } ∷ [] else []

-- where the pieces stand of the text that a reader goes on with
unfoldable pub spans_from : Cursor → List ℕ → List Span
spans_from c [] = last c
spans_from c (b ∷ bs) = ended c (advanced c b) ++ spans_from (advanced c b) bs

-- where the pieces of a text stand
abbrev pub spans_of : List ℕ → List Span
spans_of text = spans_from at_start text

-- the bytes of a piece
abbrev pub piece_in : List ℕ → Span → List ℕ
piece_in text span = take (span.stop - span.start.at) (drop span.start.at text)

-- the pieces of a text, in order
abbrev pub pieces : List ℕ → List (List ℕ)
pieces text = map (piece_in text) (spans_of text)
