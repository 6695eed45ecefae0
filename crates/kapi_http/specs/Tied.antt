-- What an inbox keeps of its bytes while it waits for more.
use Rattle.std.specs.Prelude.{◌≡◌, ℕ, ◌+◌, ◌<◌, ◌≤◌, ⊤, List, [], All, IsUtf8, drop, length, take}
use Rattle.httparse.specs.Grammar.{ReadsRequest, RequestHead}
use Rattle.httparse.specs.Spans.{IsHeaderWithin, IsWithin, span_bytes}
use Rattle.httparse.specs.declared.spans.HeaderSpan.{HeaderSpan}
use Rattle.httparse.specs.declared.spans.RequestSpans.{RequestSpans}
use Rattle.kapi_http.specs.Limits.{field_limit, head_limit, kept_limit}
use Rattle.kapi_http.specs.Cut.{Finding, accepted, refused, settled, waits}
use Rattle.kapi_http.specs.Head.{Says, said}
use Rattle.kapi_http.specs.Inbox.{decision_of}
use Rattle.kapi_http.specs.Scan.{begin, scanned}
use Rattle.kapi_http.specs.declared.head.HeadParts.{HeadParts}
use Rattle.kapi_http.specs.declared.item.Decision.TheVariants as decision
use Rattle.kapi_http.specs.declared.item.Progress.{Progress}

-- while the head is not whole, all bytes were scanned, each once
pub record IsRead (progress : Progress) (kept : List ℕ) : Type 0 where
  pub scan : progress.scan ≡ scanned begin kept
  pub at : progress.scan.at ≡ length kept
  pub below : length kept < head_limit

-- the spans of the fields of a head
abbrev pub fields_of : HeadParts → List HeaderSpan
fields_of parts = take parts.line.headers parts.fields

-- what a head of these parts says
abbrev pub told : List ℕ → HeadParts → Says
told head parts = said head parts.line (fields_of parts)

-- the texts of a head are UTF-8
pub record HasTexts (bytes : List ℕ) (line : RequestSpans) (headers : List HeaderSpan) : Type 0 where
  pub method : IsUtf8 (span_bytes bytes line.method)
  pub target : IsUtf8 (span_bytes bytes line.path)
  pub names : All (λ h. IsUtf8 (span_bytes bytes h.name)) headers

-- the parts lie in the head
pub record HasParts (head : List ℕ) (parts : HeadParts) : Type 0 where
  pub count : parts.line.headers ≤ field_limit
  pub method : IsWithin (length head) parts.line.method
  pub target : IsWithin (length head) parts.line.path
  pub fields : All (IsHeaderWithin (length head)) (fields_of parts)
  pub texts : HasTexts head parts.line (fields_of parts)

-- the parts name that method, or none
pub record NamesMethod (head : List ℕ) (parts : HeadParts) (method : List ℕ) : Type 0 where
  pub within : IsWithin (length head) parts.line.method
  pub text : IsUtf8 (span_bytes head parts.line.method)
  pub named : span_bytes head parts.line.method ≡ method

-- the parts are those of the head that was read, by what the bytes settle
abbrev pub AreKept : HeadParts → List ℕ → Finding → Type 0
AreKept parts bytes waits = ⊤
AreKept parts bytes (refused n method why) = (n ≤ length bytes) × NamesMethod (take n bytes) parts method
AreKept parts bytes (accepted n h method framing) =
    (n ≤ length bytes) × HasParts (take n bytes) parts × (told (take n bytes) parts ≡ h) × (parts.method ≡ method)

-- what is remembered is what the bytes settle
pub record IsKnown (progress : Progress) (parts : HeadParts) (kept : List ℕ) : Type 0 where
  pub decided : progress.decision ≡ decision_of (settled kept) kept
  pub read : progress.decision ≡ decision.Waits → IsRead progress kept
  pub found : AreKept parts kept (settled kept)

-- what is remembered is of the bytes that were not taken out, which are within the limit
pub record IsTied (bytes : List ℕ) (start : ℕ) (progress : Progress) (parts : HeadParts) : Type 0 where
  pub within : start ≤ length bytes
  pub fits : length (drop start bytes) ≤ kept_limit
  pub known : IsKnown progress parts (drop start bytes)

-- a whole head, of so many lines with its request line, has a line for each of its fields
abbrev pub HasLines : ℕ → List ℕ → Type 0
HasLines lines head = (h : RequestHead) → ReadsRequest head h [] → lines ≡ length h.fields + 1
