-- The header fields below a request.
use Rattle.std.specs.Prelude.{ℕ, ◌==◌, Bool, false, not, ◌&&◌, ◌||◌, if◌then◌else◌, List, [], ◌∷◌, ◌++◌, length, take, codes, Option, Some, None}
use Rattle.std.specs.Char.{is_ascii_alphanumeric}
use Rattle.std.specs.List.{list_all, position}
use Rattle.kapi_lines.specs.Lines.{NumberedLine}

-- the bytes of a name: letters, digits, `-` and `_`
abbrev pub are_name_bytes : List ℕ → Bool
are_name_bytes bytes = list_all (λ b. is_ascii_alphanumeric b || (b == 45 || b == 95)) bytes

-- a name of letters, digits, `-` and `_`
abbrev pub is_name : List ℕ → Bool
is_name bytes = not (length bytes == 0) && are_name_bytes bytes

-- a name ends at that place
abbrev pub is_name_to : List ℕ → Option ℕ → Bool
is_name_to line None = false
is_name_to line (Some at) = is_name (take at line)

-- a header field: a name and a colon (RFC 9112, section 5)
abbrev pub is_field : List ℕ → Bool
is_field line = is_name_to line (position (λ b. b == 58) line)

-- a header field ends with CRLF
abbrev pub field_line : List ℕ → List ℕ
field_line field = field ++ codes "\r\n"

-- the header fields at the front
abbrev pub field_lines : List NumberedLine → List ℕ
field_lines [] = []
field_lines (l ∷ ls) = if is_field l.text then field_line l.text ++ field_lines ls else []
