-- Watches: if one can start, and what each of its events sends (Kubernetes, 'Kubernetes API Concepts', 'Efficient
-- detection of changes').
use Rattle.std.specs.Prelude.{◌≡◌, ℕ, Bool, not, ◌&&◌, if◌then◌else◌, List, ◌++◌, codes, Option, Some, Result, Ok, Err}
use Rattle.serde_json.specs.Data.{Data}
use Rattle.serde_json.specs.Written.{compact_text}
use Rattle.kapi_http.specs.ChunkText.{chunk, last_chunk}
use Rattle.kapi_http.specs.declared.message.Method.TheVariants as method
use Rattle.kapi_model.specs.declared.row.ResourceRow.{ResourceRow}
use Rattle.kapi_model.specs.declared.identity.Identity.{Identity}
use Rattle.kapi_policy.specs.Objects.{PolicyObjects}
use Rattle.kapi_reply.specs.Refusals.{RefusedRequest, asked_for, expired}
use Rattle.kapi_reply.specs.Replies.{refusal_status}
use Rattle.kapi_reply.specs.Status.{Subject, status_of}
use Rattle.kapi_reply.specs.declared.refusal.Refusal.TheVariants as refusal
use Rattle.kapi_reply.specs.declared.refusal.Refused.{Refused as RefusedBy}
use Rattle.kapi_request_info.specs.declared.attributes.Attributes.{Attributes}
use Rattle.kapi_answer.specs.declared.query.Filter.{Filter}
use Rattle.kapi_store.specs.Plain.{Plain, PlainChange, window_start}
use Rattle.kapi_watch.specs.Running.{RefinesWatch, watch_data}
use Rattle.kapi_watch.specs.Shown.{Shown, Added, Deleted, Expired, Modified, Refused}
use Rattle.kapi_watch.specs.Text.{event_tree, type_of}
use Rattle.kapi_watch.specs.Watches.{PlainWatch, TooLarge, TooOld, WatchFault, startable, watch_from}
use Rattle.kapi_watch.specs.declared.scope.WatchScope.{WatchScope}
use Rattle.kapi_answer.specs.Authorization.{is_authorized}
use Rattle.kapi_answer.specs.declared.watch.After.{After}
use Rattle.kapi_answer.specs.declared.watch.After.TheVariants as after
use Rattle.kapi_answer.specs.declared.watch.EventReply.{EventReply}
use Rattle.kapi_answer.specs.declared.watch.Watching.{Watching}

-- a watch that a connection shows, whether the connection closes after it, its identity, and its request's attributes
pub record PlainWatching : Type 0 where
  pub watch : PlainWatch
  pub close : Bool
  pub identity : Identity
  pub attributes : Attributes

-- a watch that was just started, as the model's
abbrev pub watching_data : Watching → PlainWatching
watching_data w = record { watch = watch_data w.watch; close = w.close; identity = w.identity; attributes = w.attributes }

-- a running watch refines the model's watch
abbrev pub RefinesWatching : Watching → List PlainChange → Plain → PlainWatching → Type 0
RefinesWatching r history s w = RefinesWatch r.watch history s w.watch × (r.close ≡ w.close) × (r.identity ≡ w.identity) × (r.attributes ≡ w.attributes)

-- ---- the start

-- why no watch starts from a revision on
abbrev pub start_refusal : Plain → ℕ → WatchFault → RefusedBy
start_refusal s since TooLarge = asked_for (refusal.NotYetReached (record { asked = since; current = s.revision }))
start_refusal s since TooOld = asked_for (refusal.Expired (record { asked = since; begins = window_start s }))

-- a start of a watch, with its fault as a refusal
abbrev pub started_or_refused : Plain → ℕ → Result (Unit {0}) WatchFault → Result (Unit {0}) RefusedBy
started_or_refused s since (Ok u) = Ok u
started_or_refused s since (Err fault) = Err (start_refusal s since fault)

-- a watch can start from that revision on
unfoldable pub since_served : Plain → ℕ → Result (Unit {0}) RefusedBy
since_served s since = started_or_refused s since (startable s since)

-- the watch of what a collection request selects
abbrev pub watch_of : Plain → ResourceRow → List ℕ → Filter → PlainWatch
watch_of s row namespace filter =
    watch_from s (record { row = row; namespace = namespace; selector = filter.selector; name = filter.name }) filter.since

-- ---- the events

-- an event of a type with an object, as a line in a chunk
abbrev pub event_chunk : List ℕ → Data → List ℕ
event_chunk kind d = chunk (compact_text (event_tree kind d) ++ codes "\n")

-- an event of a watch that goes on
abbrev pub going_on : Shown → Data → EventReply
going_on e d = record { bytes = event_chunk (type_of e) d; after = after.Watches }

-- what becomes of the connection after the end of its watch
abbrev pub after_end : Bool → After
after_end close = if close then after.Closes else after.WatchEnded

-- the subject that the end of a watch is about
abbrev pub subject_of : WatchScope → Subject
subject_of scope = record { group = scope.row.group; resource = scope.row.plural; name = scope.name }

-- the Status object that ends a watch which cannot go on
abbrev pub expired_status : Plain → PlainWatch → Data
expired_status s w = status_of (Some (subject_of w.scope)) (expired (record { asked = w.position; begins = window_start s }))

-- the request that a watch was started by, which is a GET
abbrev pub started_by : PlainWatching → RefusedRequest
started_by w = record { user = w.identity.user; method = method.Get; attributes = w.attributes }

-- the Status object that refuses the request of a watch whose identity may no longer make it
abbrev pub refused_status : PlainWatching → Data
refused_status w = refusal_status (started_by w) (asked_for refusal.Forbidden)

-- the last event of a watch, with the reason for its end, and the end of the body
abbrev pub ending_of : Bool → Data → EventReply
ending_of close status = record { bytes = event_chunk (codes "ERROR") status ++ last_chunk; after = after_end close }

-- what an event sends
unfoldable pub event_reply_of : Plain → PlainWatching → Shown → EventReply
event_reply_of s w (Added d) = going_on (Added d) d
event_reply_of s w (Modified d) = going_on (Modified d) d
event_reply_of s w (Deleted d) = going_on (Deleted d) d
event_reply_of s w Expired = ending_of w.close (expired_status s w.watch)
event_reply_of s w Refused = ending_of w.close (refused_status w)

-- ---- rights that were taken away

-- whether a watch may still be shown: by the current roles and bindings, the identity may do what its request was about
abbrev pub may_go_on : PolicyObjects → PlainWatching → Bool
may_go_on objects w = is_authorized objects w.identity w.attributes

-- what is shown of a watch whose rights are rechecked: the loss of rights comes before all else
unfoldable pub rechecked : Bool → PolicyObjects → PlainWatching → Option Shown → Option Shown
rechecked on objects w shown = if on && not (may_go_on objects w) then Some Refused else shown
