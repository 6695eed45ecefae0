-- The rules that a head must keep to be served, in the order of the checks.
use Rattle.std.specs.Prelude.{ℕ, ◌≤◌, ⊤, ◌==◌, nat_lt, nat_le, if◌then◌else◌, not, ◌&&◌, List, [], ◌∷◌, length, codes, Option, Some, None, Result, Ok, Err}
use Rattle.std.specs.List.{list_all}
use Rattle.std.specs.Str.{bytes_eq, str_eq_ignore_ascii_case}
use Rattle.std.specs.Str.Parse.{digits_value}
use Rattle.std.specs.Char.{is_ascii_digit}
use Rattle.kapi_http.specs.Limits.{body_limit}
use Rattle.kapi_http.specs.Fields.{FieldBytes, values}
use Rattle.kapi_http.specs.Head.{Says}
use Rattle.kapi_http.specs.declared.rules.Framing.{Framing}
use Rattle.kapi_http.specs.declared.rules.Framing.TheVariants.{Sized, Chunked}
use Rattle.kapi_http.specs.declared.message.Method.{Method}
use Rattle.kapi_http.specs.declared.message.Method.TheVariants.{Get, Post, Put, Patch, Delete}
use Rattle.kapi_http.specs.declared.message.Refusal.{Refusal}
use Rattle.kapi_http.specs.declared.message.Refusal.TheVariants as refusal

-- the method of that name, which is case-sensitive (RFC 9110 section 9.1)
unfoldable pub method_named : List ℕ → Option Method
method_named name =
    if bytes_eq name (codes "GET") then Some Get
    else if bytes_eq name (codes "POST") then Some Post
    else if bytes_eq name (codes "PUT") then Some Put
    else if bytes_eq name (codes "PATCH") then Some Patch
    else if bytes_eq name (codes "DELETE") then Some Delete
    else None

-- a body of that size, if it is within the limit
abbrev pub within_limit : ℕ → Result Framing Refusal
within_limit size = if nat_le size body_limit then Ok (Sized size) else Err refusal.BodyTooLarge

-- the size that a Content-Length value specifies: one or more digits and nothing else (RFC 9110 section 8.6)
unfoldable pub content_length : List ℕ → Result Framing Refusal
content_length value =
    if nat_lt 0 (length value) && list_all is_ascii_digit value then within_limit (digits_value 10 value)
    else Err refusal.Length

-- the transfer coding that is read: `chunked` in any case, and nothing else (RFC 9112 section 7.1)
abbrev pub coding : List ℕ → Result Framing Refusal
coding value = if str_eq_ignore_ascii_case value (codes "chunked") then Ok Chunked else Err refusal.TransferEncoding

-- how the body's end is found, from the values of Transfer-Encoding and of Content-Length (RFC 9112 section 6.3)
unfoldable pub framing_by : List (List ℕ) → List (List ℕ) → Result Framing Refusal
framing_by [] [] = Ok (Sized 0)
framing_by [] (value ∷ []) = content_length value
framing_by [] (value ∷ other ∷ more) = Err refusal.Length
framing_by (value ∷ []) [] = coding value
framing_by (value ∷ other ∷ more) [] = Err refusal.TransferEncoding
framing_by (value ∷ codings) (size ∷ more) = Err refusal.Length

-- how the end of the body behind a head of these fields is found
unfoldable pub framing : List FieldBytes → Result Framing Refusal
framing fields = framing_by (values (codes "transfer-encoding") fields) (values (codes "content-length") fields)

-- a size that was read is within the limit
abbrev pub IsFramed : Framing → Type 0
IsFramed (Sized size) = size ≤ body_limit
IsFramed Chunked = ⊤

-- the method beside the framing of its body
abbrev pub with_method : Method → Result Framing Refusal → Result (Method × Framing) Refusal
with_method method (Ok framing) = Ok (method, framing)
with_method method (Err why) = Err why

-- the method beside the framing of its body, unless the method is none that is served
abbrev pub if_served : Option Method → Result Framing Refusal → Result (Method × Framing) Refusal
if_served None framing = Err refusal.Method
if_served (Some method) framing = with_method method framing

-- the method and how the body's end is found, or the first rule that the head breaks: HTTP/1.1, exactly one Host (RFC
-- 9112 section 3.2), no Expect, a method that is served, a body whose end is known, and of a size within the limit
unfoldable pub checked : Says → Result (Method × Framing) Refusal
checked h =
    if h.minor == 0 then Err refusal.Version
    else if not (length (values (codes "host") h.fields) == 1) then Err refusal.Host
    else if not (length (values (codes "expect") h.fields) == 0) then Err refusal.Expectation
    else if_served (method_named h.method) (framing h.fields)
