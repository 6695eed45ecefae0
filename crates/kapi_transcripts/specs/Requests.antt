-- Requests as a transcript writes them, and the bytes that they are written for (RFC 9112, section 3).
use Rattle.std.specs.Prelude.{ℕ, ◌==◌, if◌then◌else◌, ◌+◌, List, [], ◌++◌, length, take, drop, codes, Option, Some, None}
use Rattle.std.specs.Fmt.{decimal}
use Rattle.std.specs.List.{position}
use Rattle.std.specs.Str.{bytes_eq}
use Rattle.kapi_lines.specs.Lines.{NumberedLine}
use Rattle.kapi_transcripts.specs.Fields.{field_lines}
use Rattle.kapi_transcripts.specs.declared.request.Request.{Request}
use Rattle.kapi_lines.specs.Escapes.{escaped}
use Rattle.kapi_lines.specs.Words.{begins}

-- the method that a line begins with, and the text behind it and a space
unfoldable pub request_line : List ℕ → Option (List ℕ × List ℕ)
request_line l =
    if begins l (codes "GET ") then Some (codes "GET", drop 4 l)
    else (if begins l (codes "POST ") then Some (codes "POST", drop 5 l)
    else (if begins l (codes "PUT ") then Some (codes "PUT", drop 4 l)
    else (if begins l (codes "PATCH ") then Some (codes "PATCH", drop 6 l)
    else (if begins l (codes "DELETE ") then Some (codes "DELETE", drop 7 l) else None))))

-- the text up to a place, or all of it
abbrev pub up_to : List ℕ → Option ℕ → List ℕ
up_to text None = text
up_to text (Some at) = take at text

-- the text behind a place, or none of it
abbrev pub behind : List ℕ → Option ℕ → List ℕ
behind text None = []
behind text (Some at) = drop (at + 1) text

-- the target ends at the first space
abbrev pub target_in : List ℕ → List ℕ
target_in text = up_to text (position (λ b. b == 32) text)

-- the body is all text behind the target
abbrev pub body_in : List ℕ → List ℕ
body_in text = behind text (position (λ b. b == 32) text)

-- the request of a method, and the target and the body behind it
abbrev pub request_of : List ℕ → List ℕ → Request
request_of method rest = record { method = method; target = target_in rest; body = body_in rest }

-- the media type of a method's body: a patch is a merge patch (RFC 7396)
abbrev pub media_of : List ℕ → List ℕ
media_of method = if bytes_eq method (codes "PATCH") then codes "Content-Type: application/merge-patch+json\r\n" else []

-- a word, and a number in decimal
abbrev pub number_line : List ℕ → ℕ → List ℕ
number_line word n = word ++ decimal n

-- the bytes of a request, before the lines that follow
abbrev pub request_text : Request → List NumberedLine → List ℕ
request_text r later =
    ((((((((r.method ++ codes " ") ++ r.target) ++ codes " HTTP/1.1\r\nHost: a\r\n") ++ media_of r.method) ++ field_lines later)
    ++ number_line (codes "Content-Length: ") (length r.body)) ++ codes "\r\n\r\n") ++ r.body)

-- bytes as a script writes them
abbrev pub escaped_text : List ℕ → List ℕ
escaped_text bytes = escaped bytes

-- the line of a script that feeds bytes to a connection
abbrev pub feed_line : ℕ → List ℕ → List ℕ
feed_line connection bytes = (number_line (codes "feed ") connection ++ codes " ") ++ escaped bytes
