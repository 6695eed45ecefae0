-- What a request is, by the grammar of heads and the forms of bodies alone (RFC 9112 sections 2.2, 3, 5, 6 and 7).
use Rattle.std.specs.Prelude.{◌≡◌, ℕ, ◌<◌, ◌≤◌, ◌⊎◌, ⊤, List, [], ◌∷◌, ◌++◌, length, drop, Ok}
use Rattle.std.specs.List.{concat}
use Rattle.httparse.specs.Ascii.{line_feed}
use Rattle.httparse.specs.Grammar.{IsRequestHead, LineEnd, ReadsRequest, RequestHead, print_blank, print_end, print_request}
use Rattle.kapi_http.specs.ChunkedBody.{IsBody, SentChunk, data_of}
use Rattle.kapi_http.specs.Cut.{request_of}
use Rattle.kapi_http.specs.Head.{says}
use Rattle.kapi_http.specs.Limits.{field_limit, head_limit}
use Rattle.kapi_http.specs.Rules.{checked}
use Rattle.kapi_http.specs.declared.message.HttpRequest.{HttpRequest}
use Rattle.kapi_http.specs.declared.message.Method.{Method}
use Rattle.kapi_http.specs.declared.rules.Framing.{Framing}
use Rattle.kapi_http.specs.declared.rules.Framing.TheVariants.{Sized, Chunked}

-- the bytes begin with this head of the grammar, which has so many bytes and is within the limits
pub record HasHead (bytes : List ℕ) (n : ℕ) (head : RequestHead) : Type 0 where
  pub reads : ReadsRequest bytes head (drop n bytes)
  pub size : n ≡ length (print_request head)
  pub short : n ≤ head_limit
  pub few : length head.fields ≤ field_limit

-- the head is above a limit
abbrev pub IsTooLarge : RequestHead → Type 0
IsTooLarge head = (head_limit < length (print_request head)) ⊎ (field_limit < length head.fields)

-- the bytes have an empty line that can end a head: behind empty lines some bytes that do not begin with one, an LF,
-- and a line end
pub record HasEmptyLine (bytes : List ℕ) : Type 0 where
  pub blank : List LineEnd
  pub line : List ℕ
  pub last : LineEnd
  pub more : List ℕ
  pub whole : bytes ≡ print_blank blank ++ (line ++ line_feed ∷ (print_end last ++ more))
  pub some : (end : LineEnd) (rest : List ℕ) → ¬ (line ++ line_feed ∷ [] ≡ print_end end ++ rest)

-- what is sent as a body, and its content: as many bytes as the head says, or chunks
abbrev pub IsSent : Framing → List ℕ → List ℕ → Type 0
IsSent (Sized size) sent content = (length sent ≡ size) × (sent ≡ content)
IsSent Chunked sent content =
    (chunks : List SentChunk) × (size : List ℕ) × IsBody sent chunks size × (data_of chunks ≡ content)

-- the text is this request and no more: a head of the grammar that keeps the limits and the rules, and its body
pub record IsRequest (text : List ℕ) (r : HttpRequest) : Type 0 where
  pub head : RequestHead
  pub method : Method
  pub framing : Framing
  pub sent : List ℕ
  pub content : List ℕ
  pub valid : IsRequestHead head
  pub short : length (print_request head) ≤ head_limit
  pub few : length head.fields ≤ field_limit
  pub rules : checked (says head) ≡ Ok (method, framing)
  pub body : IsSent framing sent content
  pub whole : text ≡ print_request head ++ sent
  pub request : r ≡ request_of (says head) method content (length text)

-- each of the texts is one of the requests, in their order
abbrev pub AreRequests : List (List ℕ) → List HttpRequest → Type 0
AreRequests [] [] = ⊤
AreRequests [] (r ∷ requests) = ⊥
AreRequests (text ∷ texts) [] = ⊥
AreRequests (text ∷ texts) (r ∷ requests) = IsRequest text r × AreRequests texts requests

-- no request is a front of the bytes
abbrev pub HasNone : List ℕ → Type 0
HasNone bytes = (text more : List ℕ) (r : HttpRequest) → IsRequest text r → ¬ (bytes ≡ text ++ more)

-- the bytes are the texts of these requests, one behind the other, and others that begin with none
pub record AreCut (bytes : List ℕ) (requests : List HttpRequest) : Type 0 where
  pub texts : List (List ℕ)
  pub rest : List ℕ
  pub each : AreRequests texts requests
  pub whole : bytes ≡ concat texts ++ rest
  pub none : HasNone rest
