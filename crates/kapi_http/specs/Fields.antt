-- The header fields of a head, by name (RFC 9110 sections 5.1 and 5.6.1).
use Rattle.std.specs.Prelude.{ℕ, ◌==◌, Bool, List, map, codes}
use Rattle.std.specs.List.{filter, list_any, slice_split}
use Rattle.std.specs.Str.{str_eq_ignore_ascii_case}
use Rattle.httparse.specs.Ascii.{comma}
use Rattle.httparse.specs.Grammar.{trim_ows}
use Rattle.httparse.specs.Spans.{header_bytes}
use Rattle.httparse.specs.declared.spans.HeaderSpan.{HeaderSpan}

-- a field is its name and its value
abbrev pub FieldBytes : Type 0
FieldBytes = List ℕ × List ℕ

-- the field has that name, in any case
abbrev pub is_named : List ℕ → FieldBytes → Bool
is_named name field = str_eq_ignore_ascii_case field.0 name

-- the values of the fields of that name, in their order
unfoldable pub values : List ℕ → List FieldBytes → List (List ℕ)
values name fields = map (λ field. field.1) (filter (is_named name) fields)

-- the value is a list, its items parted by commas, and one item is the word, in any case
unfoldable pub lists : List ℕ → List ℕ → Bool
lists word value =
    list_any (λ item. str_eq_ignore_ascii_case (trim_ows item) word) (slice_split (λ b. b == comma) value)

-- a Connection field asks to close (RFC 9112 section 9.6)
abbrev pub asks_to_close : List FieldBytes → Bool
asks_to_close fields = list_any (lists (codes "close")) (values (codes "connection") fields)

-- the fields of a head whose names and values are at these spans
abbrev pub fields_at : List ℕ → List HeaderSpan → List FieldBytes
fields_at bytes headers = map (header_bytes bytes) headers
