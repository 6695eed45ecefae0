-- The requests of a text (RFC 9112 sections 2.2, 3, 5, 6, 7 and 9.6).
use Rattle.std.specs.Prelude.{◌≡◌, ℕ, zero, suc, ◌+◌, nat_lt, nat_le, if◌then◌else◌, IsSome, is_some, List, [], ◌∷◌, ◌++◌, length, take, drop, map, codes, slice_range, Option, Some, None, Result, Ok, Err}
use Rattle.std.specs.Str.{bytes_eq}
use Rattle.kapi_http.specs.Limits.{head_limit}
use Rattle.kapi_http.specs.Chunks.{chunked, ending_of, joined, no_chunks}
use Rattle.kapi_http.specs.Fields.{FieldBytes, asks_to_close}
use Rattle.kapi_http.specs.Head.{Says, head_of}
use Rattle.kapi_http.specs.Rules.{checked}
use Rattle.kapi_http.specs.Scan.{begin, is_ended, scanned}
use Rattle.kapi_http.specs.declared.message.Header.{Header}
use Rattle.kapi_http.specs.declared.message.HttpFault.{HttpFault}
use Rattle.kapi_http.specs.declared.message.HttpRequest.{HttpRequest}
use Rattle.kapi_http.specs.declared.message.Method.{Method}
use Rattle.kapi_http.specs.declared.message.Refusal.{Refusal}
use Rattle.kapi_http.specs.declared.message.Refusal.TheVariants as refusal
use Rattle.kapi_http.specs.declared.message.StatusCode.{StatusCode}
use Rattle.kapi_http.specs.declared.message.StatusCode.TheVariants as status
use Rattle.kapi_http.specs.declared.chunks.Chunks.{Chunks}
use Rattle.kapi_http.specs.declared.chunks.Ending.{Ending}
use Rattle.kapi_http.specs.declared.chunks.Ending.TheVariants as ending
use Rattle.kapi_http.specs.declared.rules.Framing.{Framing}
use Rattle.kapi_http.specs.declared.rules.Framing.TheVariants.{Sized, Chunked}
use Rattle.kapi_http.specs.declared.scan.Scan.{Scan}

-- the status code of a refusal
abbrev pub code_of : Refusal → StatusCode
code_of refusal.HeadTooLarge = status.RequestHeaderFieldsTooLarge
code_of refusal.NoHead = status.BadRequest
code_of refusal.Version = status.HttpVersionNotSupported
code_of refusal.Host = status.BadRequest
code_of refusal.Expectation = status.ExpectationFailed
code_of refusal.Method = status.MethodNotAllowed
code_of refusal.Length = status.BadRequest
code_of refusal.TransferEncoding = status.NotImplemented
code_of refusal.Chunk = status.BadRequest
code_of refusal.BodyTooLarge = status.ContentTooLarge

-- the word of a refusal: what is wrong with a bad request, or the method that is not allowed
abbrev pub word_of : Refusal → List ℕ → List ℕ
word_of refusal.HeadTooLarge method = []
word_of refusal.NoHead method = codes "head"
word_of refusal.Version method = []
word_of refusal.Host method = codes "host"
word_of refusal.Expectation method = []
word_of refusal.Method method = method
word_of refusal.Length method = codes "length"
word_of refusal.TransferEncoding method = []
word_of refusal.Chunk method = codes "chunk"
word_of refusal.BodyTooLarge method = []

-- the fault of a request of that method; a reply to HEAD has no body (RFC 9110 section 9.3.2)
abbrev pub fault_of : List ℕ → Refusal → HttpFault
fault_of method why = record {
  code = code_of why;
  word = word_of why method;
  no_body = bytes_eq method (codes "HEAD");
}

-- a header field
abbrev pub header_of : FieldBytes → Header
header_of field = record { name = field.0; value = field.1 }

-- the request of that head and body, and its length as sent
abbrev pub request_of : Says → Method → List ℕ → ℕ → HttpRequest
request_of h method body length = record {
  method = method;
  target = h.target;
  headers = map header_of h.fields;
  body = body;
  close = asks_to_close h.fields;
  length = length;
}

-- what the front of a text settles
pub data Finding : Type 0 where
  -- the text settles nothing yet
  waits : Finding
  -- the text is refused: the bytes of its head, the method, empty where no head was read, and the reason
  refused : (n : ℕ) (method : List ℕ) (why : Refusal) → Finding
  -- a head is accepted: its bytes, what it says, the method, and how the body's end is found
  accepted : (n : ℕ) (h : Says) (method : Method) (framing : Framing) → Finding

-- what a head that was read settles, by the rules
abbrev pub settled_by : List ℕ → Says → Result (Method × Framing) Refusal → Finding
settled_by head h (Ok m) = accepted (length head) h m.0 m.1
settled_by head h (Err why) = refused (length head) h.method why

-- what a whole head settles, which is one of the grammar or not
abbrev pub settled_of : List ℕ → Option Says → Finding
settled_of head None = refused (length head) [] refusal.NoHead
settled_of head (Some h) = settled_by head h (checked h)

-- what a whole head of so many lines settles: at most the request line and 64 more are allowed
abbrev pub settled_within : ℕ → List ℕ → Finding
settled_within lines head =
    if nat_lt 65 lines then refused 0 [] refusal.HeadTooLarge else settled_of head (head_of head)

-- what a scanned head settles: it is whole within 16,384 bytes, is too long, or waits
abbrev pub settled_at : Scan → List ℕ → Finding
settled_at s bytes =
    if is_ended s.place then settled_within s.lines (take s.at bytes)
    else if nat_le head_limit (length bytes) then refused 0 [] refusal.HeadTooLarge
    else waits

-- what the front of a text settles
unfoldable pub settled : List ℕ → Finding
settled bytes = settled_at (scanned begin (take head_limit bytes)) bytes

-- a request whose body comes in chunks, of which so many bytes were read
abbrev pub chunked_item : ℕ → Says → Method → Ending → ℕ → List ℕ → Option (Result HttpRequest HttpFault)
chunked_item n h method ending.Open at bytes = None
chunked_item n h method ending.Closed at bytes =
    Some (Ok (request_of h method (joined no_chunks (slice_range bytes n (n + at))) (n + at)))
chunked_item n h method (ending.Refused why) at bytes = Some (Err (fault_of h.method why))

-- the chunks behind so many bytes
abbrev pub chunks_behind : ℕ → List ℕ → Chunks
chunks_behind n bytes = chunked no_chunks (drop n bytes)

-- the item that is settled: a request only once its body is whole
abbrev pub item_of : Finding → List ℕ → Option (Result HttpRequest HttpFault)
item_of waits bytes = None
item_of (refused n method why) bytes = Some (Err (fault_of method why))
item_of (accepted n h method (Sized size)) bytes =
    if nat_le (n + size) (length bytes)
    then Some (Ok (request_of h method (slice_range bytes n (n + size)) (n + size)))
    else None
item_of (accepted n h method Chunked) bytes =
    chunked_item n h method (ending_of (chunks_behind n bytes).spot) (chunks_behind n bytes).at bytes

-- what a text begins with: a whole request, a fault, or nothing yet
unfoldable pub first : List ℕ → Option (Result HttpRequest HttpFault)
first bytes = item_of (settled bytes) bytes

-- how many bytes at the front decide the first item, if it is a fault: the head's, or 16,384 without its end, and those
-- of chunks up to the body's end or its first wrong byte
abbrev pub reach_of : Finding → List ℕ → ℕ
reach_of waits bytes = (scanned begin (take head_limit bytes)).at
reach_of (refused n method why) bytes = (scanned begin (take head_limit bytes)).at
reach_of (accepted n h method (Sized size)) bytes = (scanned begin (take head_limit bytes)).at
reach_of (accepted n h method Chunked) bytes = n + (chunks_behind n bytes).at

-- how many bytes at the front of a text decide its first item, if it is a fault
abbrev pub reach : List ℕ → ℕ
reach bytes = reach_of (settled bytes) bytes

-- the requests of a text and the fault behind them, if any
pub record Cut : Type 0 where
  pub requests : List HttpRequest
  pub fault : Option HttpFault

-- the cut that has nothing more
abbrev pub no_more : Cut
no_more = record { requests = []; fault = None }

-- a request before the others
abbrev pub with_request : HttpRequest → Cut → Cut
with_request request c = record c { requests = request ∷ c.requests }

-- the first item and what the bytes behind it are cut to
abbrev pub cut_at : (List ℕ → Cut) → List ℕ → Option (Result HttpRequest HttpFault) → Cut
cut_at others bytes None = no_more
cut_at others bytes (Some (Err fault)) = record { requests = []; fault = Some fault }
cut_at others bytes (Some (Ok request)) = with_request request (others (drop request.length bytes))

-- at most so many items
unfoldable pub cut_by : ℕ → List ℕ → Cut
cut_by zero bytes = no_more
cut_by (suc n) bytes = cut_at (cut_by n) bytes (first bytes)

-- all whole requests of a text and the fault behind them, if any; each request has a byte at least
unfoldable pub cut : List ℕ → Cut
cut bytes = cut_by (length bytes) bytes

-- one cut is the beginning of another, and the same where it ends in a fault
pub record Begins (a b : Cut) : Type 0 where
  pub others : List HttpRequest
  pub requests : b.requests ≡ a.requests ++ others
  pub fault : IsSome a.fault → (others ≡ []) × (b.fault ≡ a.fault)

-- one cut, and where it does not end in a fault another behind it
abbrev pub and_then : Cut → Cut → Cut
and_then a b = if is_some a.fault then a else record { requests = a.requests ++ b.requests; fault = b.fault }

-- the bytes of some requests
abbrev pub total_length : List HttpRequest → ℕ
total_length [] = 0
total_length (request ∷ requests) = request.length + total_length requests

-- what is taken where the pieces come one after the other, and all that is whole is taken after each
unfoldable pub taken : List ℕ → List (List ℕ) → Cut
taken kept [] = no_more
taken kept (piece ∷ pieces) =
    and_then (cut (kept ++ piece)) (taken (drop (total_length (cut (kept ++ piece)).requests) (kept ++ piece)) pieces)
