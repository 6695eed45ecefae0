-- Replies with JSON bodies, and the replies to refused requests.
use Rattle.std.specs.Prelude.{ℕ, Bool, true, false, if◌then◌else◌, List, [], Option, Some, None}
use Rattle.serde_json.specs.Data.{Data}
use Rattle.serde_json.specs.Written.{compact_text}
use Rattle.kapi_http.specs.Reply.{text}
use Rattle.kapi_http.specs.declared.message.HttpFault.{HttpFault}
use Rattle.kapi_http.specs.declared.message.Method.{Method}
use Rattle.kapi_http.specs.declared.message.Reply.{Reply}
use Rattle.kapi_http.specs.declared.message.StatusCode.{StatusCode}
use Rattle.kapi_http.specs.declared.message.StatusCode.TheVariants as status
use Rattle.kapi_reply.specs.declared.refusal.BadRequestReason.{BadRequestReason}
use Rattle.kapi_reply.specs.declared.refusal.Refused.{Refused}
use Rattle.kapi_reply.specs.declared.reply.Content.{Content}
use Rattle.kapi_reply.specs.declared.reply.Content.TheVariants as content
use Rattle.kapi_reply.specs.declared.reply.WrittenReply.{WrittenReply}
use Rattle.kapi_reply.specs.Refusals.{RefusedRequest, bad_request, failure_of, fault_failure, name_in, subject_of, word_text}
use Rattle.kapi_reply.specs.Status.{Failed, Subject, status_of}

-- a reply with a JSON body, or none
abbrev pub json_reply : StatusCode → List Method → Bool → Option (List ℕ) → Reply
json_reply code allow close body =
    record { code = code; plain = false; allow = allow; chunked = false; close = close; body = body }

-- a reply as bytes
abbrev pub sent : Reply → WrittenReply
sent reply = record { bytes = text reply; close = reply.close }

-- whether a body is plain text, and not JSON
abbrev pub is_plain : Content → Bool
is_plain content.Json = false
is_plain content.Text = true

-- a reply with an object, given as JSON text, or a plain text
abbrev pub content_reply : StatusCode → Content → Bool → List ℕ → WrittenReply
content_reply code of close body = sent (record (json_reply code [] close (Some body)) { plain = is_plain of })

-- the head of a watch, whose events follow in chunks (RFC 9112 section 7.1): it does not end the connection, which may
-- close after the watch
abbrev pub watch_reply : Bool → WrittenReply
watch_reply close = record { bytes = text (record (json_reply status.Ok [] close None) { chunked = true }); close = false }

-- a reply that reports a failure and its subject
abbrev pub failure_reply : Option Subject → Bool → Failed → WrittenReply
failure_reply subject close f = sent (json_reply f.code f.allow close (Some (compact_text (status_of subject f))))

-- the Status object for a refused request
abbrev pub refusal_status : RefusedRequest → Refused → Data
refusal_status asked r = status_of (subject_of asked.attributes.point (name_in asked r)) (failure_of asked (name_in asked r) r.why)

-- the reply to a refused request
abbrev pub refusal_reply : RefusedRequest → Bool → Refused → WrittenReply
refusal_reply asked close r =
    failure_reply (subject_of asked.attributes.point (name_in asked r)) close (failure_of asked (name_in asked r) r.why)

-- the reply to a request whose target has a fault: nothing is known of its attributes
abbrev pub target_reply : BadRequestReason → Bool → WrittenReply
target_reply w close = failure_reply None close (bad_request (word_text w))

-- the body that reports a fault, which the reply to a HEAD request has not (RFC 9110 section 9.3.2)
abbrev pub fault_body : HttpFault → Option (List ℕ)
fault_body f = if f.no_body then None else Some (compact_text (status_of None (fault_failure f.code f.word)))

-- the reply to bytes that are no request; it ends the connection
unfoldable pub fault_reply : HttpFault → WrittenReply
fault_reply f = sent (json_reply f.code (fault_failure f.code f.word).allow true (fault_body f))
