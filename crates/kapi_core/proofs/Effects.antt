-- What an event changes: the changes it writes, the connection it moves, and what stays. Each law of all events is
-- a field of `Effect`.
use Rattle.std.proofs.Common.{◌≡◌, ℕ, ◌+◌, suc, List, [], ◌∷◌, ◌++◌, length, nat_lt, nat_le, Bool, true, false, ◌&&◌, if◌then◌else◌, Option, Some, None, option_map, Result, Ok, Err, refl, sym, ap, ◌∙◌, arith, append-nil}
use Rattle.std.specs.BTreeMap.{insert_entry, is_at}
use Rattle.std.specs.Map.{remove_entry, set_value}
use Rattle.std.specs.Ordering.{nat_cmp}
use Rattle.kapi_aggregation.specs.Rewriting.{rewriting}
use Rattle.kapi_aggregation.specs.Roles.{roles_in}
use Rattle.kapi_aggregation.specs.Turns.{next}
use Rattle.kapi_aggregation.specs.declared.turn.Turn.{Turn}
use Rattle.kapi_answer.specs.Answer.{Answered, answer}
use Rattle.kapi_answer.specs.Watch.{PlainWatching, event_reply_of}
use Rattle.kapi_answer.specs.declared.watch.After.{After}
use Rattle.kapi_answer.specs.declared.watch.After.TheVariants as becomes
use Rattle.kapi_answer.specs.declared.watch.EventReply.{EventReply}
use Rattle.kapi_http.specs.Cut.{first}
use Rattle.kapi_core.specs.Limits.{kept_limit, last_connection, open_connections}
use Rattle.kapi_http.specs.declared.message.HttpFault.{HttpFault}
use Rattle.kapi_http.specs.declared.message.HttpRequest.{HttpRequest}
use Rattle.kapi_model.specs.declared.identity.Identity.{Identity}
use Rattle.kapi_store.specs.Changes.{placed_all}
use Rattle.kapi_store.specs.Faults.{StoreFault}
use Rattle.kapi_store.specs.Plain.{Plain, PlainChange, written}
use Rattle.kapi_escalation.specs.Reading.{policy_changes}
use Rattle.kapi_core.specs.declared.event.Answer.{Answer}
use Rattle.kapi_core.specs.declared.event.ConnId.{ConnId}
use Rattle.kapi_core.specs.declared.event.Event.{Event}
use Rattle.kapi_core.specs.declared.event.Event.TheVariants as event
use Rattle.kapi_core.specs.Machine.{Link, Machine, after_event, after_serve, after_turn, changed, ended_if, feed_step, link_at, new_link, open_step, policy_of, pump_shown, pump_step, pump_watch, serve_beside, serve_item, serve_step, shown_next, step, turn_step, turned_by, unserved, watched_on, with_link}
use Rattle.kapi_core.specs.Telling.{changes_told}

-- the number of the connection that an event is about
abbrev pub number_of : Machine → Event → ℕ
number_of m (event.Open identity) = m.next_id
number_of m (event.Feed conn piece) = conn.0
number_of m (event.Serve conn) = conn.0
number_of m (event.Pump conn) = conn.0
number_of m event.Turn = 0
number_of m (event.Close conn) = conn.0

-- why an event writes some changes: it serves a request, or it is a turn; or it writes none
pub data FaultKind (m : Machine) (e : Event) (changes : List PlainChange) : Type 0 where
  none : changes ≡ [] → FaultKind m e changes
  request : (conn : ConnId) (l : Link) (item : Result HttpRequest HttpFault) → e ≡ event.Serve conn → link_at conn.0 m ≡ Some l
      → changes ≡ (answer (policy_of m) m.store l.identity item).changes → FaultKind m e changes
  turn : (turn : Turn) → next (roles_in m.store.objects) ≡ Some turn → rewriting turn m.store ≡ Ok changes → FaultKind m e changes

-- what becomes of the connections: they stay, one is opened, or one goes on for its identity, or ends
pub data Moves (m : Machine) (e : Event) (n : Machine) : Type 0 where
  stays : n.links ≡ m.links → n.next_id ≡ m.next_id → Moves m e n
  opens : (identity : Identity) → e ≡ event.Open identity → n.links ≡ insert_entry nat_cmp m.links m.next_id (new_link identity) → n.next_id ≡ m.next_id + 1 → Moves m e n
  goes_on : (old new : Link) → link_at (number_of m e) m ≡ Some old → new.identity ≡ old.identity
      → n.links ≡ set_value (is_at (nat_cmp (number_of m e))) m.links new → n.next_id ≡ m.next_id → Moves m e n
  ends : n.links ≡ remove_entry (is_at (nat_cmp (number_of m e))) m.links → n.next_id ≡ m.next_id → Moves m e n

-- what an event changes, by its answer and the machine after it
pub record Effect (m : Machine) (e : Event) (x : Answer × Machine) : Type 0 where
  pub changes : List PlainChange
  pub cause : FaultKind m e changes
  pub store : x.1.store ≡ written changes m.store
  pub all : x.1.changes ≡ m.changes ++ changes
  pub told : changes_told x.0 ≡ policy_changes changes
  pub rechecks : x.1.rechecks ≡ m.rechecks
  pub moves : Moves m e x.1

-- ---- one of two, and nothing written

either : (P : Answer × Machine → Type 0) (b : Bool) (x y : Answer × Machine) → P x → P y → P (if b then x else y)
either P true x y one other = one
either P false x y one other = other

pub written_none : (s : Plain) → s ≡ written [] s
unfolding placed_all
written_none s = let counted : s.revision ≡ s.revision + 0 = omega arith in ap (λ revision. record s { revision = revision }) counted

told_none : [] ≡ policy_changes []
unfolding policy_changes
told_none = refl

quiet : (m : Machine) (e : Event) (x : Answer × Machine) → x.1.store ≡ m.store → x.1.changes ≡ m.changes → changes_told x.0 ≡ [] → x.1.rechecks ≡ m.rechecks → Moves m e x.1 → Effect m e x
quiet m e x store all silent rechecks moves = record {
  changes = [];
  cause = none refl;
  store = store ∙ written_none m.store;
  all = all ∙ sym (append-nil m.changes);
  told = silent ∙ told_none;
  rechecks = rechecks;
  moves = moves;
}

still : (m : Machine) (e : Event) (a : Answer) → changes_told a ≡ [] → Effect m e (a, m)
still m e a silent = quiet m e (a, m) refl refl silent refl (stays refl refl)

-- a connection that goes on and then ends has ended
set_removed : (test : ℕ → Bool) (es : List (ℕ × Link)) (new : Link) → remove_entry test (set_value test es new) ≡ remove_entry test es
set_removed test [] new = refl
set_removed test (x ∷ es) new = by_test (test x.0) refl (set_removed test es new)
  where
    by_test : (b : Bool) → test x.0 ≡ b → remove_entry test (set_value test es new) ≡ remove_entry test es
        → remove_entry test (set_value test (x ∷ es) new) ≡ remove_entry test (x ∷ es)
    by_test true is rest = rw (is, is) refl
    by_test false is rest = rw (is, is) (ap (λ es. x ∷ es) rest)

-- ---- the steps

opened : (identity : Identity) (m : Machine) → Effect m (event.Open identity) (open_step identity m)
unfolding open_step
opened identity m =
    let e : Event = event.Open identity in
    either (Effect m e) (nat_lt (length m.links) open_connections && nat_le m.next_id last_connection) _ _
    (quiet m e _ refl refl refl refl (opens identity refl refl refl)) (still m e _ refl)

fed : (conn : ConnId) (piece : List ℕ) (m : Machine) (o : Option Link) → link_at conn.0 m ≡ o → Effect m (event.Feed conn piece) (feed_step conn.0 piece o m)
unfolding feed_step
fed conn piece m None at = still m (event.Feed conn piece) _ refl
fed conn piece m (Some l) at =
    let e : Event = event.Feed conn piece in
    either (Effect m e) (nat_le (length (unserved l) + length piece) kept_limit) _ _
    (quiet m e _ refl refl refl refl (goes_on l (record l { sent = l.sent ++ piece }) at refl refl refl)) (still m e _ refl)

served_to : (conn : ConnId) (l : Link) (item : Result HttpRequest HttpFault) (m : Machine) → link_at conn.0 m ≡ Some l
    → Effect m (event.Serve conn) (after_serve conn.0 l (answer (policy_of m) m.store l.identity item) m)
unfolding after_serve
served_to conn l item m at = by_close answered.reply.close
  where
    answered : Answered
    answered = answer (policy_of m) m.store l.identity item

    new : Link
    new = record l { served = suc l.served; watching = answered.watch }

    made : Machine
    made = changed answered.changes (with_link conn.0 new m)

    moved : (close : Bool) → Moves m (event.Serve conn) (ended_if close conn.0 made)
    moved true = ends (set_removed (is_at (nat_cmp conn.0)) m.links new) refl
    moved false = goes_on l new at refl refl refl

    kept : (close : Bool) → ((ended_if close conn.0 made).store ≡ made.store) × ((ended_if close conn.0 made).changes ≡ made.changes) × ((ended_if close conn.0 made).rechecks ≡ made.rechecks)
    kept true = (refl, refl, refl)
    kept false = (refl, refl, refl)

    by_close : (close : Bool) → Effect m (event.Serve conn) ((after_serve conn.0 l answered m).0, ended_if close conn.0 made)
    by_close close = record {
      changes = answered.changes;
      cause = request conn l item refl at refl;
      store = (kept close).0;
      all = (kept close).1;
      told = refl;
      rechecks = (kept close).2;
      moves = moved close;
    }

served : (conn : ConnId) (m : Machine) (o : Option Link) → link_at conn.0 m ≡ o → Effect m (event.Serve conn) (serve_step conn.0 o m)
unfolding serve_step serve_beside serve_item
served conn m None at = still m (event.Serve conn) _ refl
served conn m (Some l) at = by_watch l.watching
  where
    by_item : (item : Option (Result HttpRequest HttpFault)) → Effect m (event.Serve conn) (serve_item conn.0 l item m)
    by_item None = still m (event.Serve conn) _ refl
    by_item (Some item) = served_to conn l item m at

    by_watch : (w : Option PlainWatching) → Effect m (event.Serve conn) (serve_beside conn.0 l w m)
    by_watch None = by_item (first (unserved l))
    by_watch (Some w) = still m (event.Serve conn) _ refl

pumped : (conn : ConnId) (m : Machine) (o : Option Link) → link_at conn.0 m ≡ o → Effect m (event.Pump conn) (pump_step conn.0 o m)
unfolding pump_step pump_watch pump_shown after_event
pumped conn m None at = still m (event.Pump conn) _ refl
pumped conn m (Some l) at = by_watch l.watching
  where
    e : Event
    e = event.Pump conn

    by_after : (w : PlainWatching) (a : After) (reply : Answer) → changes_told reply ≡ [] → Effect m e (reply, after_event a conn.0 l w m)
    by_after w becomes.Watches reply silent = quiet m e _ refl refl silent refl (goes_on l (watched_on l w m) at refl refl refl)
    by_after w becomes.WatchEnded reply silent = quiet m e _ refl refl silent refl (goes_on l (record l { watching = None }) at refl refl refl)
    by_after w becomes.Closes reply silent = quiet m e _ refl refl silent refl (ends refl refl)

    by_shown : (w : PlainWatching) (r : Option EventReply) → Effect m e (pump_shown conn.0 l w r m)
    by_shown w None = quiet m e _ refl refl refl refl (goes_on l (watched_on l w m) at refl refl refl)
    by_shown w (Some r) = by_after w r.after _ refl

    by_watch : (w : Option PlainWatching) → Effect m e (pump_watch conn.0 l w m)
    by_watch None = still m e _ refl
    by_watch (Some w) = by_shown w (option_map (event_reply_of m.store w) (shown_next m w))

turned : (m : Machine) → Effect m event.Turn (turn_step m)
unfolding turn_step
turned m = by_due (next (roles_in m.store.objects)) refl
  where
    by_write : (turn_due : Turn) → next (roles_in m.store.objects) ≡ Some turn_due → (r : Result (List PlainChange) StoreFault) → rewriting turn_due m.store ≡ r
        → Effect m event.Turn (after_turn turn_due.name r m)
    by_write turn_due comes (Ok changes) is = record { changes = changes; cause = turn turn_due comes is; store = refl; all = refl; told = refl; rechecks = refl; moves = stays refl refl }
    by_write turn_due comes (Err fault) is = still m event.Turn _ refl

    by_due : (due : Option Turn) → next (roles_in m.store.objects) ≡ due → Effect m event.Turn (turned_by due m)
    by_due None comes = still m event.Turn _ refl
    by_due (Some turn_due) comes = by_write turn_due comes (rewriting turn_due m.store) refl

-- what each event changes
pub effect : (m : Machine) (e : Event) → Effect m e (step m e)
unfolding step
effect m (event.Open identity) = opened identity m
effect m (event.Feed conn piece) = fed conn piece m (link_at conn.0 m) refl
effect m (event.Serve conn) = served conn m (link_at conn.0 m) refl
effect m (event.Pump conn) = pumped conn m (link_at conn.0 m) refl
effect m event.Turn = turned m
effect m (event.Close conn) = quiet m (event.Close conn) _ refl refl refl refl (ends refl refl)
