-- The head of a request as a function of its bytes (RFC 9112 sections 2.2, 3 and 5): what the grammar of `httparse`
-- reads.
use Rattle.std.specs.Prelude.{ℕ, ◌-◌, ◌==◌, nat_lt, nat_le, if◌then◌else◌, Bool, true, false, ◌&&◌, List, [], ◌∷◌, length, drop, map, slice_index, Option, Some, None, zero, suc}
use Rattle.std.specs.List.{list_all}
use Rattle.std.specs.Str.{bytes_eq, is_utf8}
use Rattle.httparse.specs.Ascii.{carriage_return, digit_zero}
use Rattle.httparse.specs.Grammar.{RequestHead, print_request, Field, LineEnd, crlf, lf, is_token_byte, is_uri_byte, is_value_byte, is_token}
use Rattle.httparse.specs.Pieces.{is_newline}
use Rattle.httparse.specs.Spans.{name_and_value, span_bytes}
use Rattle.httparse.specs.declared.spans.HeaderSpan.{HeaderSpan}
use Rattle.httparse.specs.declared.spans.RequestSpans.{RequestSpans}
use Rattle.kapi_http.specs.Fields.{FieldBytes, fields_at}

-- what a head says: the fields are names as sent, and values without the white space around them
pub record Says : Type 0 where
  pub method : List ℕ
  pub target : List ℕ
  pub minor : ℕ
  pub fields : List FieldBytes

-- what the grammar's tree of a head says
abbrev pub says : RequestHead → Says
says h = record { method = h.method; target = h.target; minor = h.minor; fields = map name_and_value h.fields }

-- the bytes at the front that pass the test
abbrev pub front : (ℕ → Bool) → List ℕ → List ℕ
front test [] = []
front test (b ∷ bytes) = if test b then b ∷ front test bytes else []

-- the bytes behind the front that passes the test
abbrev pub back : (ℕ → Bool) → List ℕ → List ℕ
back test [] = []
back test (b ∷ bytes) = if test b then back test bytes else b ∷ bytes

-- the line end at the front: CRLF if a CR comes first, else LF
abbrev pub end_at : List ℕ → LineEnd
end_at bytes = if slice_index bytes 0 == carriage_return then crlf else lf

-- the bytes behind that line end
abbrev pub after_end : List ℕ → List ℕ
after_end bytes = if slice_index bytes 0 == carriage_return then drop 2 bytes else drop 1 bytes

-- the line ends in a run of line-end bytes; the flag says that a CR comes before
abbrev pub ends_in : Bool → List ℕ → List LineEnd
ends_in cr [] = []
ends_in cr (b ∷ bytes) =
    if b == carriage_return then ends_in true bytes else (if cr then crlf else lf) ∷ ends_in false bytes

-- the field line at the front
abbrev pub field_at : List ℕ → Field
field_at bytes = record {
  name = front is_token_byte bytes;
  raw = front is_value_byte (drop 1 (back is_token_byte bytes));
  end = end_at (back is_value_byte (drop 1 (back is_token_byte bytes)));
}

-- the bytes behind that field line
abbrev pub after_field : List ℕ → List ℕ
after_field bytes = after_end (back is_value_byte (drop 1 (back is_token_byte bytes)))

-- a line of the field section and the lines behind it
abbrev pub with_field : Field → List Field × LineEnd → List Field × LineEnd
with_field f s = (f ∷ s.0, s.1)

-- the field lines, at most so many, and the empty line behind them
unfoldable pub section_at : ℕ → List ℕ → List Field × LineEnd
section_at zero bytes = ([], end_at bytes)
section_at (suc n) bytes =
    if is_newline (slice_index bytes 0) then ([], end_at bytes)
    else with_field (field_at bytes) (section_at n (after_field bytes))

-- the parts of a head, from its version on
abbrev pub from_version : List LineEnd → List ℕ → List ℕ → List ℕ → RequestHead
from_version blank method target bytes = record {
  blank = blank;
  method = method;
  target = target;
  minor = slice_index bytes 7 - digit_zero;
  line_end = end_at (drop 8 bytes);
  fields = (section_at (length bytes) (after_end (drop 8 bytes))).0;
  last = (section_at (length bytes) (after_end (drop 8 bytes))).1;
}

-- the parts of a head, from its target on
abbrev pub from_target : List LineEnd → List ℕ → List ℕ → RequestHead
from_target blank method bytes =
    from_version blank method (front is_uri_byte bytes) (drop 1 (back is_uri_byte bytes))

-- the parts of a head, from its method on
abbrev pub from_method : List LineEnd → List ℕ → RequestHead
from_method blank bytes =
    from_target blank (front is_token_byte bytes) (drop 1 (back is_token_byte bytes))

-- the parts of a head, if the bytes are a head; the parts of other bytes are arbitrary
unfoldable pub parts : List ℕ → RequestHead
parts bytes = from_method (ends_in false (front is_newline bytes)) (back is_newline bytes)

-- the name is a token, and the value has no control byte but the tab
abbrev pub is_field : Field → Bool
is_field f = is_token f.name && list_all is_value_byte f.raw

-- each part of a head is of its class
unfoldable pub is_head : RequestHead → Bool
is_head h =
    is_token h.method
    && ((nat_lt 0 (length h.target) && list_all is_uri_byte h.target)
    && (is_utf8 h.target && (nat_le h.minor 1 && list_all is_field h.fields)))

-- what the head says, if the bytes are the head as printed
abbrev pub if_printed : List ℕ → RequestHead → Option Says
if_printed bytes h = if is_head h && bytes_eq bytes (print_request h) then Some (says h) else None

-- what the bytes say, if they are one request head, with the empty lines before it, and no more
unfoldable pub head_of : List ℕ → Option Says
head_of bytes = if_printed bytes (parts bytes)

-- what the head says whose parts are at these spans
abbrev pub said : List ℕ → RequestSpans → List HeaderSpan → Says
said bytes line headers = record {
  method = span_bytes bytes line.method;
  target = span_bytes bytes line.path;
  minor = line.version;
  fields = fields_at bytes headers;
}
