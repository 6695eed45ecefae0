-- What an event leaves of the connections of the machine.
use Rattle.std.proofs.Common.{◌≡◌, ℕ, ◌+◌, suc, Bool, true, false, if◌then◌else◌, List, [], ◌++◌, length, Option, Some, None, option_map, slice_get, Result, refl, sym, ap, ◌∙◌, subst, arith}
use Rattle.std.specs.Prelude.{nat_le}
use Rattle.kapi_answer.specs.Answer.{Answered, answer as answered}
use Rattle.kapi_answer.specs.Watch.{PlainWatching, event_reply_of}
use Rattle.kapi_answer.specs.declared.watch.After.{After}
use Rattle.kapi_answer.specs.declared.watch.After.TheVariants as becomes
use Rattle.kapi_answer.specs.declared.watch.EventReply.{EventReply}
use Rattle.kapi_core.proofs.Effects.{number_of}
use Rattle.kapi_core.proofs.Numbered.{event_touches, found_gone, found_new, found_own, set_touches, there, turn_links}
use Rattle.kapi_watch.specs.Shown.{Shown}
use Rattle.kapi_watch.specs.Watches.{after_pump, due, is_expired, moved}
use Rattle.kapi_watch.specs.declared.scope.WatchScope.{WatchScope}
use Rattle.kapi_core.specs.Fingerprints.{fingerprint_of, fingerprint_of_watch, fingerprint_on}
use Rattle.kapi_core.specs.Limits.{kept_limit}
use Rattle.kapi_core.specs.Machine.{Link, Machine, after_event, after_serve, changed, ended_if, feed_step, is_last, link_at, new_link, open_step, output_of, policy_of, pump_shown, pump_step, pump_watch, rest_after, serve_beside, serve_item, serve_step, shown_next, step, unserved, watched_on, with_link, with_new_link}
use Rattle.kapi_core.specs.declared.event.Answer.{Answer}
use Rattle.kapi_core.specs.declared.event.Answer.TheVariants as answer
use Rattle.kapi_core.specs.declared.event.ConnId.{ConnId}
use Rattle.kapi_core.specs.declared.event.Event.{Event}
use Rattle.kapi_core.specs.declared.event.Event.TheVariants as event
use Rattle.kapi_core.specs.declared.event.Output.{Output}
use Rattle.kapi_http.specs.Cut.{first, settled}
use Rattle.kapi_http.specs.Scan.{scanned}
use Rattle.kapi_http.specs.declared.message.HttpFault.{HttpFault}
use Rattle.kapi_http.specs.declared.message.HttpRequest.{HttpRequest}
use Rattle.kapi_model.specs.declared.identity.Identity.{Identity}
use Rattle.kapi_serve.specs.Private.ClientsMatch.{GoesOn, HasNoRequest, IsNumbered, Stays}
use Rattle.kapi_serve.proofs.Numbers.{grows_by}

-- ---- one connection goes on

pub goes_event : (m : Machine) (e : Event) (id : ℕ) → number_of m e ≡ id → IsNumbered m → GoesOn id m (step m e).1
goes_event m e id is k =
    let t = event_touches m e k in
    subst (λ q. GoesOn q m (step m e).1) is (record { numbered = t.numbered; others = t.others; next = grows_by m e })

pub goes_none : (id : ℕ) (m : Machine) → IsNumbered m → GoesOn id m m
goes_none id m k = record { numbered = k; others = λ q never. refl; next = omega arith }

pub goes_both : (id : ℕ) (l m n : Machine) → GoesOn id l m → GoesOn id m n → GoesOn id l n
goes_both id l m n one other = record {
  numbered = other.numbered;
  others = λ q never. other.others q never ∙ one.others q never;
  next = omega (arith, one.next, other.next);
}

-- no connection goes on with a turn
pub turn_stays : (m : Machine) → Stays m (step m event.Turn).1
unfolding step
turn_stays m = record { links = turn_links m; next = grows_by m event.Turn }

pub stays_none : (m : Machine) → Stays m m
stays_none m = record { links = refl; next = omega arith }

pub stays_both : (l m n : Machine) → Stays l m → Stays m n → Stays l n
stays_both l m n one other = record { links = other.links ∙ one.links; next = omega (arith, one.next, other.next) }

-- ---- no request

-- if a machine answers nothing, none does
pub no_request : (id : ℕ) (l : Option Link) (m : Machine) → answer.Nothing ≡ (serve_step id l m).0 → HasNoRequest id l
unfolding serve_step serve_beside serve_item after_serve
no_request id None m h = λ n. refl
no_request id (Some l) m h = λ n. by_watch n l.watching h
  where
    by_item : (n : Machine) (o : Option (Result HttpRequest HttpFault)) → answer.Nothing ≡ (serve_item id l o m).0 → (serve_item id l o n).0 ≡ answer.Nothing
    by_item n None h = refl
    by_item n (Some item) h = absurd (cc)

    by_watch : (n : Machine) (w : Option PlainWatching) → answer.Nothing ≡ (serve_beside id l w m).0 → (serve_beside id l w n).0 ≡ answer.Nothing
    by_watch n (Some w) h = refl
    by_watch n None h = by_item n (first (unserved l)) h

-- a connection on which nothing is answered is left as it was
pub unserved_stays : (m : Machine) (conn : ConnId) → answer.Nothing ≡ (step m (event.Serve conn)).0 → (step m (event.Serve conn)).1 ≡ m
unfolding step serve_step serve_beside serve_item after_serve
unserved_stays m conn h = by_link (link_at conn.0 m) h
  where
    by_item : (l : Link) (o : Option (Result HttpRequest HttpFault)) → answer.Nothing ≡ (serve_item conn.0 l o m).0 → (serve_item conn.0 l o m).1 ≡ m
    by_item l None h = refl
    by_item l (Some item) h = absurd (cc)

    by_watch : (l : Link) (w : Option PlainWatching) → answer.Nothing ≡ (serve_beside conn.0 l w m).0 → (serve_beside conn.0 l w m).1 ≡ m
    by_watch l (Some w) h = refl
    by_watch l None h = by_item l (first (unserved l)) h

    by_link : (o : Option Link) → answer.Nothing ≡ (serve_step conn.0 o m).0 → (serve_step conn.0 o m).1 ≡ m
    by_link None h = refl
    by_link (Some l) h = by_watch l l.watching h

-- the connection has no request where nothing was answered on it
pub answered_nothing : (m : Machine) (conn : ConnId) → answer.Nothing ≡ (step m (event.Serve conn)).0 → HasNoRequest conn.0 (link_at conn.0 m)
unfolding step
answered_nothing m conn h = no_request conn.0 (link_at conn.0 m) m h

-- a pump that shows nothing leaves it so
pub pumped_request : (m : Machine) (conn : ConnId) → answer.Nothing ≡ (step m (event.Pump conn)).0 → HasNoRequest conn.0 (link_at conn.0 m) → HasNoRequest conn.0 (link_at conn.0 (step m (event.Pump conn)).1)
unfolding step pump_step pump_watch pump_shown serve_step serve_beside
pumped_request m conn h none = by_link (link_at conn.0 m) refl h none
  where
    id : ℕ
    id = conn.0

    watched : (l : Link) (w : PlainWatching) → link_at id m ≡ Some l → HasNoRequest id (link_at id (with_link id (watched_on l w m) m))
    watched l w is = subst (λ o. HasNoRequest id o) (sym (found_own id (watched_on l w m) m (there id m l is))) (λ n. refl)

    by_shown : (l : Link) (w : PlainWatching) (o : Option EventReply) → link_at id m ≡ Some l → answer.Nothing ≡ (pump_shown id l w o m).0 → HasNoRequest id (link_at id (pump_shown id l w o m).1)
    by_shown l w None is h = watched l w is
    by_shown l w (Some r) is h = absurd (cc)

    by_watch : (l : Link) (w : Option PlainWatching) → link_at id m ≡ Some l → answer.Nothing ≡ (pump_watch id l w m).0 → HasNoRequest id (link_at id m) → HasNoRequest id (link_at id (pump_watch id l w m).1)
    by_watch l None is h none = none
    by_watch l (Some w) is h none = by_shown l w (option_map (event_reply_of m.store w) (shown_next m w)) is h

    by_link : (o : Option Link) → link_at id m ≡ o → answer.Nothing ≡ (pump_step id o m).0 → HasNoRequest id (link_at id m) → HasNoRequest id (link_at id (pump_step id o m).1)
    by_link None is h none = none
    by_link (Some l) is h none = by_watch l l.watching is h none

-- ---- watches

-- a pump that shows nothing leaves the watch what it is
pub pumped_fingerprint : (m : Machine) (conn : ConnId) → answer.Nothing ≡ (step m (event.Pump conn)).0 → fingerprint_on (link_at conn.0 m) ≡ fingerprint_on (link_at conn.0 (step m (event.Pump conn)).1)
unfolding step pump_step pump_watch pump_shown
pumped_fingerprint m conn h = by_link (link_at conn.0 m) refl h
  where
    id : ℕ
    id = conn.0

    same_scope : (w : PlainWatching) → (after_pump m.changes m.store w.watch).scope ≡ w.watch.scope
    same_scope w = by_end (is_expired m.store w.watch) (slice_get (due m.changes w.watch) w.watch.shown)
      where
        by_end : (b : Bool) (o : Option (ℕ × Shown)) → (if b then w.watch else moved m.store w.watch o).scope ≡ w.watch.scope
        by_end true o = refl
        by_end false None = refl
        by_end false (Some e) = refl

    by_shown : (l : Link) (w : PlainWatching) (o : Option EventReply) → link_at id m ≡ Some l → l.watching ≡ Some w → answer.Nothing ≡ (pump_shown id l w o m).0
        → fingerprint_on (Some l) ≡ fingerprint_on (link_at id (pump_shown id l w o m).1)
    by_shown l w None is runs h =
        ap (option_map fingerprint_of_watch) runs
        ∙ ap (λ (s : WatchScope). Some (fingerprint_of s.row.group s.row.plural s.namespace)) (sym (same_scope w))
        ∙ sym (ap fingerprint_on (found_own id (watched_on l w m) m (there id m l is)))
    by_shown l w (Some r) is runs h = absurd (cc)

    by_watch : (l : Link) (w : Option PlainWatching) → link_at id m ≡ Some l → l.watching ≡ w → answer.Nothing ≡ (pump_watch id l w m).0 → fingerprint_on (Some l) ≡ fingerprint_on (link_at id (pump_watch id l w m).1)
    by_watch l None is runs h = sym (ap fingerprint_on is)
    by_watch l (Some w) is runs h = by_shown l w (option_map (event_reply_of m.store w) (shown_next m w)) is runs h

    by_link : (o : Option Link) → link_at id m ≡ o → answer.Nothing ≡ (pump_step id o m).0 → fingerprint_on o ≡ fingerprint_on (link_at id (pump_step id o m).1)
    by_link None is h = sym (ap fingerprint_on is)
    by_link (Some l) is h = by_watch l l.watching is refl h

-- a piece that is fed leaves the watch what it is
pub fed_fingerprint : (m : Machine) (conn : ConnId) (piece : List ℕ) → fingerprint_on (link_at conn.0 m) ≡ fingerprint_on (link_at conn.0 (step m (event.Feed conn piece)).1)
unfolding step feed_step
fed_fingerprint m conn piece = by_link (link_at conn.0 m) refl
  where
    by_fit : (l : Link) (b : Bool) (p q : Answer × Machine) → fingerprint_on (Some l) ≡ fingerprint_on (link_at conn.0 p.1) → fingerprint_on (Some l) ≡ fingerprint_on (link_at conn.0 q.1)
        → fingerprint_on (Some l) ≡ fingerprint_on (link_at conn.0 (if b then p else q).1)
    by_fit l true p q one other = one
    by_fit l false p q one other = other

    by_link : (o : Option Link) → link_at conn.0 m ≡ o → fingerprint_on o ≡ fingerprint_on (link_at conn.0 (feed_step conn.0 piece o m).1)
    by_link None is = sym (ap fingerprint_on is)
    by_link (Some l) is = by_fit l (nat_le (length (unserved l) + length piece) kept_limit) (answer.Done, with_link conn.0 (record l { sent = l.sent ++ piece }) m) (answer.Full, m)
        (sym (ap fingerprint_on (found_own conn.0 (record l { sent = l.sent ++ piece }) m (there conn.0 m l is)))) (sym (ap fingerprint_on is))

-- ---- a connection ends

pub closed_gone : (m : Machine) (conn : ConnId) → IsNumbered m → link_at conn.0 (step m (event.Close conn)).1 ≡ None
unfolding step
closed_gone m conn k = found_gone conn.0 m k

-- an answer that says so ends its connection
pub served_gone : (m : Machine) (conn : ConnId) (out : Output) → answer.Sent out ≡ (step m (event.Serve conn)).0 → out.close ≡ true → IsNumbered m
    → link_at conn.0 (step m (event.Serve conn)).1 ≡ None
unfolding step serve_step serve_beside serve_item after_serve
served_gone m conn out h ends k = by_link (link_at conn.0 m) refl h
  where
    id : ℕ
    id = conn.0

    by_close : (b : Bool) (n : Machine) → b ≡ true → IsNumbered n → link_at id (ended_if b id n) ≡ None
    by_close true n e k = found_gone id n k
    by_close false n e k = absurd (cc)

    by_answer : (l : Link) (a : Answered) → link_at id m ≡ Some l → answer.Sent out ≡ (after_serve id l a m).0 → link_at id (after_serve id l a m).1 ≡ None
    by_answer l a is h =
        let same : out ≡ output_of a = cc in
        let next : Link = record l { served = suc l.served; watching = a.watch } in
        by_close a.reply.close (changed a.changes (with_link id next m)) (ap (λ o. o.close) (sym same) ∙ ends) (set_touches id next m (there id m l is) k).numbered

    by_item : (l : Link) (o : Option (Result HttpRequest HttpFault)) → link_at id m ≡ Some l → answer.Sent out ≡ (serve_item id l o m).0 → link_at id (serve_item id l o m).1 ≡ None
    by_item l None is h = absurd (cc)
    by_item l (Some item) is h = by_answer l (answered (policy_of m) m.store l.identity item) is h

    by_watch : (l : Link) (w : Option PlainWatching) → link_at id m ≡ Some l → answer.Sent out ≡ (serve_beside id l w m).0 → link_at id (serve_beside id l w m).1 ≡ None
    by_watch l (Some w) is h = absurd (cc)
    by_watch l None is h = by_item l (first (unserved l)) is h

    by_link : (o : Option Link) → link_at id m ≡ o → answer.Sent out ≡ (serve_step id o m).0 → link_at id (serve_step id o m).1 ≡ None
    by_link None is h = absurd (cc)
    by_link (Some l) is h = by_watch l l.watching is h

pub shown_gone : (m : Machine) (conn : ConnId) (out : Output) → answer.Sent out ≡ (step m (event.Pump conn)).0 → out.close ≡ true → IsNumbered m
    → link_at conn.0 (step m (event.Pump conn)).1 ≡ None
unfolding step pump_step pump_watch pump_shown after_event
shown_gone m conn out h ends k = by_link (link_at conn.0 m) h
  where
    id : ℕ
    id = conn.0

    by_after : (a : After) (l : Link) (w : PlainWatching) → is_last a ≡ true → link_at id (after_event a id l w m) ≡ None
    by_after becomes.Watches l w e = absurd (cc)
    by_after becomes.WatchEnded l w e = absurd (cc)
    by_after becomes.Closes l w e = found_gone id m k

    by_shown : (l : Link) (w : PlainWatching) (o : Option EventReply) → answer.Sent out ≡ (pump_shown id l w o m).0 → link_at id (pump_shown id l w o m).1 ≡ None
    by_shown l w None h = absurd (cc)
    by_shown l w (Some r) h =
        let same : out ≡ record { bytes = r.bytes; close = is_last r.after; policy_changes = [] } = cc in
        by_after r.after l w (ap (λ o. o.close) (sym same) ∙ ends)

    by_watch : (l : Link) (w : Option PlainWatching) → answer.Sent out ≡ (pump_watch id l w m).0 → link_at id (pump_watch id l w m).1 ≡ None
    by_watch l None h = absurd (cc)
    by_watch l (Some w) h = by_shown l w (option_map (event_reply_of m.store w) (shown_next m w)) h

    by_link : (o : Option Link) → answer.Sent out ≡ (pump_step id o m).0 → link_at id (pump_step id o m).1 ≡ None
    by_link None h = absurd (cc)
    by_link (Some l) h = by_watch l l.watching h

-- ---- a connection is opened

first_none : first [] ≡ None
unfolding first settled scanned
first_none = refl

fresh_request : (id : ℕ) (who : Identity) → HasNoRequest id (Some (new_link who))
unfolding serve_step serve_beside serve_item rest_after
fresh_request id who n = ap (λ o. (serve_item id (new_link who) o n).0) first_none

-- of two machines the one is opened to, and the other not
opens_if : (b : Bool) (x y : Answer × Machine) (conn : ConnId) (P : Machine → Type 0) → P x.1 → y.0 ≡ answer.TooMany → answer.Opened conn ≡ (if b then x else y).0 → P (if b then x else y).1
opens_if true x y conn P holds many is = holds
opens_if false x y conn P holds many is = absurd (cc)

-- a connection that was just opened has no request
pub opened_request : (m : Machine) (who : Identity) (conn : ConnId) → answer.Opened conn ≡ (step m (event.Open who)).0 → HasNoRequest m.next_id (link_at m.next_id (step m (event.Open who)).1)
unfolding step open_step
opened_request m who conn is =
    opens_if _ (answer.Opened (record { 0 = m.next_id }), with_new_link m.next_id (new_link who) m) (answer.TooMany, m) conn (λ n. HasNoRequest m.next_id (link_at m.next_id n))
    (subst (λ o. HasNoRequest m.next_id o) (sym (found_new m.next_id (new_link who) m)) (fresh_request m.next_id who)) refl is

-- and no watch
pub opened_fingerprint : (m : Machine) (who : Identity) (conn : ConnId) → answer.Opened conn ≡ (step m (event.Open who)).0 → None ≡ fingerprint_on (link_at m.next_id (step m (event.Open who)).1)
unfolding step open_step
opened_fingerprint m who conn is =
    opens_if _ (answer.Opened (record { 0 = m.next_id }), with_new_link m.next_id (new_link who) m) (answer.TooMany, m) conn (λ n. None ≡ fingerprint_on (link_at m.next_id n))
    (sym (ap fingerprint_on (found_new m.next_id (new_link who) m))) refl is

-- ---- what is answered

pub request_answered : (m : Machine) (conn : ConnId) → HasNoRequest conn.0 (link_at conn.0 m) → (step m (event.Serve conn)).0 ≡ answer.Nothing
unfolding step
request_answered m conn none = none m

-- nothing is answered on a connection that is no more
pub gone_request : (id : ℕ) (l : Option Link) → l ≡ None → HasNoRequest id l
unfolding serve_step
gone_request id l gone = subst (λ o. HasNoRequest id o) (sym gone) (λ n. refl)

-- on another machine with the same connection nothing is answered either
pub answered_same : (m n : Machine) (conn : ConnId) → link_at conn.0 n ≡ link_at conn.0 m → (step m (event.Serve conn)).0 ≡ answer.Nothing → (step n (event.Serve conn)).0 ≡ answer.Nothing
unfolding step
answered_same m n conn same h = subst (λ o. (serve_step conn.0 o n).0 ≡ answer.Nothing) (sym same) (no_request conn.0 (link_at conn.0 m) m (sym h) n)

-- a piece that is not taken in leaves the machine as it was
pub unfed_stays : (m : Machine) (conn : ConnId) (piece : List ℕ) (x : Answer) → x ≡ (step m (event.Feed conn piece)).0 → (x ≡ answer.Done → ⊥) → (step m (event.Feed conn piece)).1 ≡ m
unfolding step feed_step
unfed_stays m conn piece x is never = by_link (link_at conn.0 m) is
  where
    by_fit : (b : Bool) (p q : Answer × Machine) → p.0 ≡ answer.Done → q.1 ≡ m → x ≡ (if b then p else q).0 → (if b then p else q).1 ≡ m
    by_fit true p q done same is = absurd (never (is ∙ done))
    by_fit false p q done same is = same

    by_link : (o : Option Link) → x ≡ (feed_step conn.0 piece o m).0 → (feed_step conn.0 piece o m).1 ≡ m
    by_link None is = refl
    by_link (Some l) is = by_fit (nat_le (length (unserved l) + length piece) kept_limit) (answer.Done, with_link conn.0 (record l { sent = l.sent ++ piece }) m) (answer.Full, m) refl refl is
