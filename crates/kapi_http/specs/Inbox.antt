-- The bytes of a connection that were not served yet, and what is taken out of them.
use Rattle.std.specs.Prelude.{ℕ, ◌+◌, if◌then◌else◌, Bool, true, List, [], drop, Option, None, Result, Ok, Err}
use Rattle.kapi_http.specs.Chunks.{chunked, no_chunks}
use Rattle.kapi_http.specs.Cut.{first, Finding, waits, refused, accepted}
use Rattle.kapi_http.specs.declared.item.Decision.{Decision}
use Rattle.kapi_http.specs.declared.item.Decision.TheVariants as decision
use Rattle.kapi_http.specs.declared.message.HttpFault.{HttpFault}
use Rattle.kapi_http.specs.declared.message.HttpRequest.{HttpRequest}
use Rattle.kapi_http.specs.declared.rules.Framing.{Framing}
use Rattle.kapi_http.specs.declared.rules.Framing.TheVariants.{Sized, Chunked}

-- the bytes that were fed and not taken out, and whether a fault was taken out
pub record Unserved : Type 0 where
  pub kept : List ℕ
  pub ended : Bool

-- the first item of the bytes; there is none after a fault was taken out
abbrev pub next_of : Unserved → Option (Result HttpRequest HttpFault)
next_of u = if u.ended then None else first u.kept

-- what is left after the first item was taken out
abbrev pub after_next : Unserved → Result HttpRequest HttpFault → Unserved
after_next u (Ok request) = record { kept = drop request.length u.kept; ended = u.ended }
after_next u (Err fault) = record { kept = []; ended = true }

-- what an inbox remembers of a head of so many bytes that keeps the rules, and of the bytes behind it
abbrev pub accepted_of : ℕ → Framing → List ℕ → Decision
accepted_of n (Sized size) body = decision.Accepted n (n + size)
accepted_of n Chunked body = decision.Chunked n (chunked no_chunks body)

-- what an inbox remembers of what its bytes settle
abbrev pub decision_of : Finding → List ℕ → Decision
decision_of waits bytes = decision.Waits
decision_of (refused n method why) bytes = decision.Refused n why
decision_of (accepted n h method framing) bytes = accepted_of n framing (drop n bytes)
