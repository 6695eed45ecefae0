-- The bytes of a reply (RFC 9112 sections 4, 6 and 9.6, RFC 9110 sections 8.3, 8.6 and 10.2.1).
use Rattle.std.specs.Prelude.{ℕ, Bool, true, false, List, [], ◌∷◌, ◌++◌, length, codes, Option, None, Some}
use Rattle.std.specs.Fmt.{decimal}
use Rattle.std.specs.List.{flat_map}
use Rattle.kapi_http.specs.Message.{method_text, status_number, status_phrase}
use Rattle.kapi_http.specs.declared.message.Method.{Method}
use Rattle.kapi_http.specs.declared.message.Reply.{Reply}
use Rattle.kapi_http.specs.declared.message.StatusCode.{StatusCode}

-- the status line of a reply: version, code and phrase
abbrev pub status_line : StatusCode → List ℕ
status_line code = codes "HTTP/1.1 " ++ decimal (status_number code) ++ codes " " ++ status_phrase code ++ codes "\r\n"

-- what the body is: plain text, or JSON
abbrev pub type_line : Bool → List ℕ
type_line true = codes "Content-Type: text/plain\r\n"
type_line false = codes "Content-Type: application/json\r\n"

-- how the body's end is found: by chunks, by the number of its bytes, or there is none
abbrev pub framing_line : Bool → Option (List ℕ) → List ℕ
framing_line true body = codes "Transfer-Encoding: chunked\r\n"
framing_line false None = []
framing_line false (Some body) = codes "Content-Length: " ++ decimal (length body) ++ codes "\r\n"

-- a further method of a list
abbrev pub further : Method → List ℕ
further method = codes ", " ++ method_text method

-- the Allow line: the methods that are served at the path, if some are named
abbrev pub allow_line : List Method → List ℕ
allow_line [] = []
allow_line (method ∷ methods) = codes "Allow: " ++ method_text method ++ flat_map further methods ++ codes "\r\n"

-- the connection closes after the reply
abbrev pub close_line : Bool → List ℕ
close_line true = codes "Connection: close\r\n"
close_line false = []

-- the bytes of a body, none if there is no body
abbrev pub body_bytes : Option (List ℕ) → List ℕ
body_bytes None = []
body_bytes (Some body) = body

-- the text of a reply: the status line, the header fields, an empty line and the body
unfoldable pub text : Reply → List ℕ
text r =
    status_line r.code ++ type_line r.plain ++ framing_line r.chunked r.body ++ allow_line r.allow ++ close_line r.close
    ++ codes "\r\n" ++ body_bytes r.body
