-- What a transcript wants of an answer, and when an answer is as wanted.
use Rattle.std.specs.Prelude.{ℕ, ◌==◌, nat_eq, nat_lt, Bool, false, ◌&&◌, ◌||◌, if◌then◌else◌, List, [], ◌∷◌, ◌++◌, length, take, drop, codes, Option, Some, None}
use Rattle.std.specs.Char.{is_ascii_digit}
use Rattle.std.specs.List.{list_all, starts_with}
use Rattle.std.specs.Str.{bytes_eq}
use Rattle.kapi_transcripts.specs.Sent.{body_of, sent_of}
use Rattle.kapi_transcripts.specs.declared.wanted.Expected.{Expected}
use Rattle.kapi_transcripts.specs.declared.wanted.Expected.TheVariants as wants
use Rattle.kapi_lines.specs.Words.{begins}

-- ---- what a line wants

-- a reply of that code, with the text behind a space
abbrev pub reply_with : List ℕ → List ℕ → Option Expected
reply_with code [] = Some (wants.Reply code [])
reply_with code (b ∷ text) = if b == 32 then Some (wants.Reply code text) else None

-- `CODE` or `CODE TEXT`, if a code is three digits
abbrev pub reply_of : List ℕ → Option Expected
reply_of rest =
    if nat_lt (length rest) 3 then None else (if list_all is_ascii_digit (take 3 rest) then reply_with (take 3 rest) (drop 3 rest) else None)

-- what a line wants; nothing if it is of another form
unfoldable pub wanted_of : List ℕ → Option Expected
wanted_of l =
    if begins l (codes "= ") then reply_of (drop 2 l)
    else (if begins l (codes "== ") then Some (wants.Body (drop 3 l))
    else (if begins l (codes "~ ") then Some (wants.Text (drop 2 l))
    else (if begins l (codes "> ") then Some (wants.Line (drop 2 l)) else None)))

-- ---- when it is met

-- the bytes contain the text
abbrev pub contains : List ℕ → List ℕ → Bool
contains [] text = length text == 0
contains (b ∷ bs) text = starts_with nat_eq (b ∷ bs) text || contains bs text

-- a byte, unless it is a backslash before a quote
abbrev pub kept_byte : ℕ → List ℕ → List ℕ
kept_byte b bs = if b == 92 && starts_with nat_eq bs (codes "\"") then [] else b ∷ []

-- the bytes without the backslashes before a quote
abbrev pub unquoted : List ℕ → List ℕ
unquoted [] = []
unquoted (b ∷ bs) = kept_byte b bs ++ unquoted bs

-- the bytes contain the text, as they are or without the backslashes before their quotes
abbrev pub shows : List ℕ → List ℕ → Bool
shows bytes text = contains bytes text || contains (unquoted bytes) text

-- a reply of that code (RFC 9112, section 4)
abbrev pub has_code : List ℕ → List ℕ → Bool
has_code bytes code = begins bytes (codes "HTTP/1.1 ") && starts_with nat_eq (drop 9 bytes) code

-- there is a body, and it is the given one
abbrev pub is_body : Option (List ℕ) → List ℕ → Bool
is_body None text = false
is_body (Some body) text = bytes_eq body text

-- a reply with that body
abbrev pub has_body : List ℕ → List ℕ → Bool
has_body bytes text = begins bytes (codes "HTTP/1.1 ") && is_body (body_of bytes) text

-- bytes that were sent are as they are wanted
abbrev pub meets : Expected → List ℕ → Bool
meets (wants.Reply code text) bytes = has_code bytes code && shows bytes text
meets (wants.Body text) bytes = has_body bytes text
meets (wants.Text text) bytes = shows bytes text
meets (wants.Line text) bytes = false

-- bytes were sent, and are as wanted
abbrev pub is_met_by : Expected → Option (List ℕ) → Bool
is_met_by wanted None = false
is_met_by wanted (Some bytes) = meets wanted bytes

-- the line of an answer is as it is wanted
abbrev pub is_met : Expected → List ℕ → Bool
is_met (wants.Line text) line = bytes_eq line text
is_met wanted line = is_met_by wanted (sent_of line)
