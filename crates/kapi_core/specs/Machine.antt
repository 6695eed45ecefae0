-- The model of the machine, and what each event makes of it.
use Rattle.std.specs.Prelude.{ℕ, ◌+◌, zero, suc, nat_lt, nat_le, Bool, true, false, ◌&&◌, if◌then◌else◌, List, [], ◌∷◌, ◌++◌, length, drop, Option, Some, None, option_map, Result, Ok, Err}
use Rattle.std.specs.Ordering.{nat_cmp}
use Rattle.std.specs.Map.{lookup, set_value, remove_entry}
use Rattle.std.specs.BTreeMap.{insert_entry, is_at}
use Rattle.kapi_aggregation.specs.Rewriting.{rewriting}
use Rattle.kapi_aggregation.specs.Roles.{roles_in}
use Rattle.kapi_aggregation.specs.Turns.{next}
use Rattle.kapi_aggregation.specs.declared.turn.Turn.{Turn}
use Rattle.kapi_answer.specs.Answer.{answer, Answered}
use Rattle.kapi_answer.specs.Watch.{PlainWatching, event_reply_of, rechecked}
use Rattle.kapi_answer.specs.declared.watch.After.{After}
use Rattle.kapi_answer.specs.declared.watch.After.TheVariants as becomes
use Rattle.kapi_answer.specs.declared.watch.EventReply.{EventReply}
use Rattle.kapi_http.specs.Cut.{first}
use Rattle.kapi_http.specs.declared.message.HttpFault.{HttpFault}
use Rattle.kapi_http.specs.declared.message.HttpRequest.{HttpRequest}
use Rattle.kapi_model.specs.declared.identity.Identity.{Identity}
use Rattle.kapi_policy.specs.Objects.{PolicyObjects}
use Rattle.kapi_store.specs.Faults.{StoreFault}
use Rattle.kapi_store.specs.Plain.{Plain, PlainChange, written}
use Rattle.kapi_watch.specs.Shown.{Shown}
use Rattle.kapi_watch.specs.Watches.{after_pump, pumped}
use Rattle.kapi_escalation.specs.Reading.{policy_changes, policy_objects}
use Rattle.kapi_core.specs.declared.event.Event.{Event}
use Rattle.kapi_core.specs.declared.event.Event.TheVariants as event
use Rattle.kapi_core.specs.declared.event.Answer.{Answer}
use Rattle.kapi_core.specs.declared.event.Answer.TheVariants as told
use Rattle.kapi_core.specs.declared.event.Output.{Output}
use Rattle.kapi_core.specs.Limits.{kept_limit, last_connection, open_connections}

-- a connection: its identity, all bytes that it ever sent, how many of its requests were served, and its watch
pub record Link : Type 0 where
  pub identity : Identity
  pub sent : List ℕ
  pub served : ℕ
  pub watching : Option PlainWatching

-- a connection that was just opened
abbrev pub new_link : Identity → Link
new_link identity = record { identity = identity; sent = []; served = 0; watching = None }

-- the objects, all changes that ever made them, the next number, the open connections by number, and whether the rights
-- of a watch are rechecked at each of its events; a connection that was closed or has ended is not among the open ones
pub record Machine : Type 0 where
  pub store : Plain
  pub changes : List PlainChange
  pub next_id : ℕ
  pub links : List (ℕ × Link)
  pub rechecks : Bool

-- the policy of a machine: the roles and bindings among its objects
abbrev pub policy_of : Machine → PolicyObjects
policy_of m = policy_objects m.store.objects

-- ---- connections

-- the open connection of a number
abbrev pub link_at : ℕ → Machine → Option Link
link_at id m = lookup (is_at (nat_cmp id)) m.links

-- the machine with that connection in place of the one of its number
abbrev pub with_link : ℕ → Link → Machine → Machine
with_link id l m = record m { links = set_value (is_at (nat_cmp id)) m.links l }

-- the machine with one connection more
abbrev pub with_new_link : ℕ → Link → Machine → Machine
with_new_link id l m = record m { links = insert_entry nat_cmp m.links id l; next_id = id + 1 }

-- the machine that rechecks the rights of watches, or does not
abbrev pub with_rechecks : Bool → Machine → Machine
with_rechecks on m = record m { rechecks = on }

-- the machine without the connection of a number
abbrev pub without_link : ℕ → Machine → Machine
without_link id m = record m { links = remove_entry (is_at (nat_cmp id)) m.links }

-- the bytes behind the request that the bytes begin with; where they begin with none, nothing is taken
abbrev pub behind : Option (Result HttpRequest HttpFault) → List ℕ → List ℕ
behind None bytes = bytes
behind (Some (Err fault)) bytes = bytes
behind (Some (Ok request)) bytes = drop request.length bytes

-- the bytes behind so many requests
unfoldable pub rest_after : ℕ → List ℕ → List ℕ
rest_after zero bytes = bytes
rest_after (suc k) bytes = rest_after k (behind (first bytes) bytes)

-- the bytes of a connection that were not yet served
abbrev pub unserved : Link → List ℕ
unserved l = rest_after l.served l.sent

-- ---- the steps

-- a connection is opened: at most 256 at a time, with numbers of at most 18 digits
unfoldable pub open_step : Identity → Machine → Answer × Machine
open_step identity m =
    if nat_lt (length m.links) open_connections && nat_le m.next_id last_connection
    then (told.Opened (record { 0 = m.next_id }), with_new_link m.next_id (new_link identity) m)
    else (told.TooMany, m)

-- bytes come in: at most 2,097,152 are kept unserved
unfoldable pub feed_step : ℕ → List ℕ → Option Link → Machine → Answer × Machine
feed_step id piece None m = (told.Ended, m)
feed_step id piece (Some l) m =
    if nat_le (length (unserved l) + length piece) kept_limit
    then (told.Done, with_link id (record l { sent = l.sent ++ piece }) m)
    else (told.Full, m)

-- the machine without a connection that ends
abbrev pub ended_if : Bool → ℕ → Machine → Machine
ended_if close id m = if close then without_link id m else m

-- the machine after some changes
abbrev pub changed : List PlainChange → Machine → Machine
changed cs m = record m { store = written cs m.store; changes = m.changes ++ cs }

-- the bytes that an answer sends, and what its step changed in the policy
abbrev pub output_of : Answered → Output
output_of answered = record { bytes = answered.reply.bytes; close = answered.reply.close; policy_changes = policy_changes answered.changes }

-- one request more was served, its changes were made, and its watch is shown from now on
unfoldable pub after_serve : ℕ → Link → Answered → Machine → Answer × Machine
after_serve id l answered m = (
  told.Sent (output_of answered),
  ended_if answered.reply.close id (changed answered.changes (with_link id (record l { served = suc l.served; watching = answered.watch }) m)),
)

-- the answer to what was cut, if anything was, by the current roles and bindings
unfoldable pub serve_item : ℕ → Link → Option (Result HttpRequest HttpFault) → Machine → Answer × Machine
serve_item id l None m = (told.Nothing, m)
serve_item id l (Some item) m = after_serve id l (answer (policy_of m) m.store l.identity item) m

-- while a watch of the connection runs, no request is served
unfoldable pub serve_beside : ℕ → Link → Option PlainWatching → Machine → Answer × Machine
serve_beside id l (Some w) m = (told.Nothing, m)
serve_beside id l None m = serve_item id l (first (unserved l)) m

-- the next whole request of a connection is answered
unfoldable pub serve_step : ℕ → Option Link → Machine → Answer × Machine
serve_step id None m = (told.Nothing, m)
serve_step id (Some l) m = serve_beside id l l.watching m

-- whether the connection ends with an event of its watch
abbrev pub is_last : After → Bool
is_last becomes.Watches = false
is_last becomes.WatchEnded = false
is_last becomes.Closes = true

-- the bytes that an event of a watch sends
abbrev pub event_output : EventReply → Output
event_output r = record { bytes = r.bytes; close = is_last r.after; policy_changes = [] }

-- the connection whose watch was pumped
abbrev pub watched_on : Link → PlainWatching → Machine → Link
watched_on l w m = record l { watching = Some (record w { watch = after_pump m.changes m.store w.watch }) }

-- the machine after an event of a watch
unfoldable pub after_event : After → ℕ → Link → PlainWatching → Machine → Machine
after_event becomes.Watches id l w m = with_link id (watched_on l w m) m
after_event becomes.WatchEnded id l w m = with_link id (record l { watching = None }) m
after_event becomes.Closes id l w m = without_link id m

-- what a watch shows is sent; if it shows nothing, the watch moves on
unfoldable pub pump_shown : ℕ → Link → PlainWatching → Option EventReply → Machine → Answer × Machine
pump_shown id l w None m = (told.Nothing, with_link id (watched_on l w m) m)
pump_shown id l w (Some r) m = (told.Sent (event_output r), after_event r.after id l w m)

-- what a watch shows next: if rights are rechecked, first that the roles and bindings do not allow it any more
abbrev pub shown_next : Machine → PlainWatching → Option Shown
shown_next m w = rechecked m.rechecks (policy_of m) w (pumped m.changes m.store w.watch)

-- the next event of a watch, if there is one
unfoldable pub pump_watch : ℕ → Link → Option PlainWatching → Machine → Answer × Machine
pump_watch id l None m = (told.Nothing, m)
pump_watch id l (Some w) m = pump_shown id l w (option_map (event_reply_of m.store w) (shown_next m w)) m

-- the next event of a connection's watch
unfoldable pub pump_step : ℕ → Option Link → Machine → Answer × Machine
pump_step id None m = (told.Nothing, m)
pump_step id (Some l) m = pump_watch id l l.watching m

-- the changes of a turn were made; or, if no revision is left, none
abbrev pub after_turn : List ℕ → Result (List PlainChange) StoreFault → Machine → Answer × Machine
after_turn name (Ok changes) m = (told.Turned (record { revision = m.store.revision + 1; name = name; policy_changes = policy_changes changes }), changed changes m)
after_turn name (Err fault) m = (told.Nothing, m)

-- the machine after the turn that is due, if one is
abbrev pub turned_by : Option Turn → Machine → Answer × Machine
turned_by None m = (told.Nothing, m)
turned_by (Some turn) m = after_turn turn.name (rewriting turn m.store) m

-- the controller's next write: the aggregated cluster role of least name that differs from its union gets the union as
-- its rules; no write where no cluster role differs, and none if no revision is left
unfoldable pub turn_step : Machine → Answer × Machine
turn_step m = turned_by (next (roles_in m.store.objects)) m

-- the answer to an event, and the machine after it
unfoldable pub step : Machine → Event → Answer × Machine
step m (event.Open identity) = open_step identity m
step m (event.Feed conn piece) = feed_step conn.0 piece (link_at conn.0 m) m
step m (event.Serve conn) = serve_step conn.0 (link_at conn.0 m) m
step m (event.Pump conn) = pump_step conn.0 (link_at conn.0 m) m
step m event.Turn = turn_step m
step m (event.Close conn) = (told.Done, without_link conn.0 m)

-- the answers to a list of events
unfoldable pub answers : Machine → List Event → List Answer
answers m [] = []
answers m (e ∷ es) = (step m e).0 ∷ answers (step m e).1 es

-- the machine after a list of events
unfoldable pub after : Machine → List Event → Machine
after m [] = m
after m (e ∷ es) = after (step m e).1 es
