-- Each step of the running machine is that of the model.
use Rattle.std.proofs.Common.{◌≡◌, ℕ, suc, ◌+◌, ◌<◌, ◌≤◌, Bool, true, false, List, [], ◌++◌, length, Option, Some, None, IfSome, is_some, option_map, Result, Ok, Err, refl, sym, ap, ◌∙◌, subst, nat_lt, nat_le, ◌&&◌, if◌then◌else◌}
use Rattle.std.proofs.lemmas.Bool.{le-leb, lt-leb}
use Rattle.std.specs.Map.{lookup, set_value, remove_entry}
use Rattle.std.specs.Ordering.{nat_cmp}
use Rattle.std.specs.BTreeMap.{insert_entry, is_at}
use Rattle.kapi_aggregation.specs.Marks.{Covers, Tracked}
use Rattle.kapi_aggregation.specs.Roles.{roles_in}
use Rattle.kapi_answer.specs.Answer.{answer, Answered}
use Rattle.kapi_reply.specs.Replies.{fault_reply}
use Rattle.kapi_http.specs.Cut.{first}
use Rattle.kapi_http.specs.Inbox.{next_of, after_next}
use Rattle.kapi_http.specs.declared.message.HttpFault.{HttpFault}
use Rattle.kapi_http.specs.declared.message.HttpRequest.{HttpRequest}
use Rattle.kapi_model.specs.declared.identity.Identity.{Identity}
use Rattle.kapi_answer.specs.Watch.{PlainWatching, RefinesWatching, watching_data}
use Rattle.kapi_answer.specs.declared.watch.Watching.{Watching}
use Rattle.kapi_store.specs.Plain.{Plain, PlainChange, RefinesPlain, plain_of, written}
use Rattle.kapi_watch.proofs.Standing.{starts}
use Rattle.kapi_watch.specs.Running.{IsFresh}
use Rattle.kapi_policy.specs.Objects.{PolicyObjects}
use Rattle.kapi_store.specs.State.{State}
use Rattle.kapi_escalation.specs.Reading.{policy_objects}
use Rattle.kapi_core.specs.declared.connection.Connection.{Connection}
use Rattle.kapi_core.specs.declared.event.ConnId.{ConnId}
use Rattle.kapi_core.specs.declared.event.Event.{Event}
use Rattle.kapi_core.specs.declared.event.Event.TheVariants as event
use Rattle.kapi_core.specs.declared.event.Answer.{Answer}
use Rattle.kapi_core.specs.declared.event.Answer.TheVariants as told
use Rattle.kapi_core.specs.Machine.{Link, Machine, changed, link_at, new_link, unserved, with_link, ended_if, output_of, step, open_step, feed_step, serve_step, serve_beside, serve_item, after_serve}
use Rattle.kapi_core.specs.Private.Writes.{Writes}
use Rattle.kapi_core.specs.Refines.{AreLinks, AreWatching, IsLink, Serves, RefinesMachine, is_early}
use Rattle.kapi_core.proofs.AlikeLinks.{changes_follow, link_there, link_missing, links_set, links_inserted, links_removed, links_counted, links_written, removed_set}
use Rattle.kapi_core.proofs.Served.{serves_rest, serves_more, serves_next}
use Rattle.kapi_core.specs.Limits.{kept_limit, last_connection, open_connections}

-- the machine of a store, its history, some links, a number and the switch
abbrev pub machine_of : State → List PlainChange → ℕ → Bool → List (ℕ × Link) → Machine
machine_of s cs n on ps = record { store = plain_of s; changes = cs; next_id = n; links = ps; rechecks = on }

-- a store has that history
abbrev pub HasHistory : State → List PlainChange → Type 0
HasHistory s cs = RefinesPlain s cs (plain_of s)

pub machine_is : (s : State) (o : PolicyObjects) (ms : Tracked) (es : List (ℕ × Connection)) (n : ℕ) (on : Bool) (m : Machine) → RefinesMachine s o ms es n on m → machine_of s m.changes n on m.links ≡ m
machine_is s o ms es n on m h = rw (h.store.plain, h.next_id, h.rechecks) refl

-- the history of the model that is refined
pub history_is : (s : State) (o : PolicyObjects) (ms : Tracked) (es : List (ℕ × Connection)) (n : ℕ) (on : Bool) (m : Machine) → RefinesMachine s o ms es n on m → HasHistory s m.changes
history_is s o ms es n on m h = let P : Plain → Type 0 = λ p. RefinesPlain s m.changes p in subst P (sym h.store.plain) h.store

-- a policy is the roles and bindings of a store
abbrev pub HasPolicy : State → PolicyObjects → Type 0
HasPolicy s o = o ≡ policy_objects (plain_of s).objects

-- the policy of the model that is refined
pub policy_known : (s : State) (o : PolicyObjects) (ms : Tracked) (es : List (ℕ × Connection)) (n : ℕ) (on : Bool) (m : Machine) → RefinesMachine s o ms es n on m → HasPolicy s o
policy_known s o ms es n on m h = h.policy_is ∙ ap (λ (p : Plain). policy_objects p.objects) (sym h.store.plain)

-- marks cover the cluster roles of a store
abbrev pub HasMarks : State → Tracked → Type 0
HasMarks s ms = Covers ms (roles_in (plain_of s).objects)

-- the cluster roles of the model that is refined are covered
pub covers_known : (s : State) (o : PolicyObjects) (ms : Tracked) (es : List (ℕ × Connection)) (n : ℕ) (on : Bool) (m : Machine) → RefinesMachine s o ms es n on m → HasMarks s ms
covers_known s o ms es n on m h = let P : Plain → Type 0 = λ p. Covers ms (roles_in p.objects) in subst P (sym h.store.plain) h.covers

-- the connections of the model that is refined
pub links_known : (s : State) (o : PolicyObjects) (ms : Tracked) (es : List (ℕ × Connection)) (n : ℕ) (on : Bool) (m : Machine) → RefinesMachine s o ms es n on m → AreLinks m.changes (plain_of s) es m.links
links_known s o ms es n on m h = let P : Plain → Type 0 = λ p. AreLinks m.changes p es m.links in subst P (sym h.store.plain) h.links

-- what is made of a step, by its answer, its store, policy, marks, connections, number and switch
abbrev pub Made : State → PolicyObjects → Tracked → List (ℕ × Connection) → ℕ → Bool → Machine → Event → Answer → Type 0
Made s o ms es n on m event answer = (answer ≡ (step m event).0) × RefinesMachine s o ms es n on (step m event).1

-- a step from the model that is refined
pub made_for : (s : State) (o : PolicyObjects) (ms : Tracked) (es : List (ℕ × Connection)) (n : ℕ) (on : Bool) (m : Machine) (t : State) (u : PolicyObjects) (ns : Tracked) (fs : List (ℕ × Connection)) (k : ℕ) (now : Bool) (e : Event) (a : Answer)
    → RefinesMachine s o ms es n on m → ((cs : List PlainChange) → HasHistory s cs → HasPolicy s o → HasMarks s ms → (ps : List (ℕ × Link)) → AreLinks cs (plain_of s) es ps → Made t u ns fs k now (machine_of s cs n on ps) e a) → Made t u ns fs k now m e a
made_for s o ms es n on m t u ns fs k now e a h f =
    let P : Machine → Type 0 = λ m. Made t u ns fs k now m e a in subst P (machine_is s o ms es n on m h) (f m.changes (history_is s o ms es n on m h) (policy_known s o ms es n on m h) (covers_known s o ms es n on m h) m.links (links_known s o ms es n on m h))

-- the answer of the model that is refined is not early
pub not_early : (s : State) (o : PolicyObjects) (ms : Tracked) (es : List (ℕ × Connection)) (n : ℕ) (on : Bool) (m : Machine) (e : Event) → RefinesMachine s o ms es n on m
    → ((cs : List PlainChange) → HasHistory s cs → HasPolicy s o → HasMarks s ms → (ps : List (ℕ × Link)) → AreLinks cs (plain_of s) es ps → is_early (step (machine_of s cs n on ps) e).0 ≡ false) → is_early (step m e).0 ≡ false
not_early s o ms es n on m e h f = let P : Machine → Type 0 = λ m. is_early (step m e).0 ≡ false in subst P (machine_is s o ms es n on m h) (f m.changes (history_is s o ms es n on m h) (policy_known s o ms es n on m h) (covers_known s o ms es n on m h) m.links (links_known s o ms es n on m h))

-- an answer that is not early
pub told_late : (m : Machine) (e : Event) (a : Answer) → a ≡ (step m e).0 → is_early a ≡ false → is_early (step m e).0 ≡ false
told_late m e a is late = sym (ap is_early is) ∙ late

-- a request is answered late, if at all
pub served_late : (m : Machine) (conn : ConnId) → is_early (step m (event.Serve conn)).0 ≡ false
unfolding step serve_step serve_beside serve_item after_serve
served_late m conn = late_at conn.0 (link_at conn.0 m) m
  where
    late_item : (id : ℕ) (l : Link) (o : Option (Result HttpRequest HttpFault)) (m : Machine) → is_early (serve_item id l o m).0 ≡ false
    late_item id l None m = refl
    late_item id l (Some item) m = refl

    late_beside : (id : ℕ) (l : Link) (w : Option PlainWatching) (m : Machine) → is_early (serve_beside id l w m).0 ≡ false
    late_beside id l (Some w) m = refl
    late_beside id l None m = late_item id l (first (unserved l)) m

    late_at : (id : ℕ) (o : Option Link) (m : Machine) → is_early (serve_step id o m).0 ≡ false
    late_at id None m = refl
    late_at id (Some l) m = late_beside id l l.watching m

-- whether a watch runs
pub is_watching : (o : Option Watching) → is_some o ≡ true → (r : Watching) × (o ≡ Some r)
is_watching None h = absurd (cc h)
is_watching (Some r) h = (r, refl)

pub is_idle : (o : Option Watching) → is_some o ≡ false → o ≡ None
is_idle None h = refl
is_idle (Some r) h = absurd (cc h)

-- a watch that runs is shown
pub watching_there : (history : List PlainChange) (p : Plain) (r : Watching) (o : Option Watching) (w : Option PlainWatching) → o ≡ Some r → AreWatching history p o w
    → (v : PlainWatching) × (w ≡ Some v) × RefinesWatching r history p v
watching_there history p r None w is h = absurd (cc is)
watching_there history p r (Some q) None is h = absurd h
watching_there history p r (Some q) (Some v) is h =
    let same : q ≡ r = cc is in
    let P : Watching → Type 0 = λ x. RefinesWatching x history p v in
    (v, refl, subst P same h)

-- if no watch runs, none is shown
pub watching_missing : (history : List PlainChange) (p : Plain) (o : Option Watching) (w : Option PlainWatching) → o ≡ None → AreWatching history p o w → w ≡ None
watching_missing history p None None is h = refl
watching_missing history p None (Some w) is h = absurd h
watching_missing history p (Some q) w is h = absurd (cc is)

-- a watch that was just started is shown as it is
pub watching_fresh : (history : List PlainChange) (p : Plain) (o : Option Watching) → IfSome o (λ r. IsFresh p r.watch) → AreWatching history p o (option_map watching_data o)
watching_fresh history p None h = tt
watching_fresh history p (Some r) h = (starts r.watch history p h, refl, refl, refl)

-- a connection without bytes
abbrev pub new_connection : Identity → Connection
new_connection identity = record { identity = identity; inbox = record { kept = []; ended = false }; watching = None }

-- a connection that is new
is_new : (history : List PlainChange) (p : Plain) (identity : Identity) → IsLink history p (new_connection identity) (new_link identity)
unfolding Serves
is_new history p identity = record { identity = refl; kept = refl; goes_on = refl; watching = tt }

-- a connection that was opened
pub opened : (s : State) (o : PolicyObjects) (ms : Tracked) (es fs : List (ℕ × Connection)) (n : ℕ) (on : Bool) (identity : Identity) → (nat_lt (length es) open_connections && nat_le n last_connection) ≡ true
    → fs ≡ insert_entry nat_cmp es n (new_connection identity)
    → (cs : List PlainChange) → HasHistory s cs → HasPolicy s o → HasMarks s ms → (ps : List (ℕ × Link)) → AreLinks cs (plain_of s) es ps → Made s o ms fs (n + 1) on (machine_of s cs n on ps) (event.Open identity) (told.Opened (record { 0 = n }))
unfolding step open_step
opened s o ms es fs n on identity room is cs k p v ps h =
    let test : (nat_lt (length ps) open_connections && nat_le n last_connection) ≡ true = rw (← links_counted cs (plain_of s) es ps h) room in
    rw (test, is) (
      refl,
      record {
        store = k;
        policy_is = p;
        covers = v;
        next_id = refl;
        rechecks = refl;
        links = links_inserted cs (plain_of s) es ps n (new_connection identity) (new_link identity) h (is_new cs (plain_of s) identity);
      },
    )

-- no connection is opened: too many are open, or the numbers are used up
pub not_opened : (s : State) (o : PolicyObjects) (ms : Tracked) (es : List (ℕ × Connection)) (n : ℕ) (on : Bool) (identity : Identity) → (nat_lt (length es) open_connections && nat_le n last_connection) ≡ false
    → (cs : List PlainChange) → HasHistory s cs → HasPolicy s o → HasMarks s ms → (ps : List (ℕ × Link)) → AreLinks cs (plain_of s) es ps → Made s o ms es n on (machine_of s cs n on ps) (event.Open identity) told.TooMany
unfolding step open_step
not_opened s o ms es n on identity many cs k p v ps h =
    let test : (nat_lt (length ps) open_connections && nat_le n last_connection) ≡ false = rw (← links_counted cs (plain_of s) es ps h) many in
    rw test (refl, record { store = k; policy_is = p; covers = v; next_id = refl; rechecks = refl; links = h })

-- bytes that were taken in
pub fed : (s : State) (o : PolicyObjects) (ms : Tracked) (es fs : List (ℕ × Connection)) (n : ℕ) (on : Bool) (conn : ConnId) (piece : List ℕ) (c : Connection)
    → lookup (is_at (nat_cmp conn.0)) es ≡ Some c → length c.inbox.kept + length piece ≤ kept_limit
    → fs ≡ set_value (is_at (nat_cmp conn.0)) es (record c { inbox = record { kept = c.inbox.kept ++ piece; ended = false } })
    → (cs : List PlainChange) → HasHistory s cs → HasPolicy s o → HasMarks s ms → (ps : List (ℕ × Link)) → AreLinks cs (plain_of s) es ps → Made s o ms fs n on (machine_of s cs n on ps) (event.Feed conn piece) told.Done
unfolding step feed_step
fed s o ms es fs n on conn piece c there fits is cs k p v ps h =
    let l = link_there cs (plain_of s) (is_at (nat_cmp conn.0)) es ps c h there in
    let rest = serves_rest l.0.served l.0.sent c.inbox.kept l.2.kept in
    rw (l.1, rest, le-leb (length c.inbox.kept + length piece) kept_limit fits, is) (
      refl,
      record {
        store = k;
        policy_is = p;
        covers = v;
        next_id = refl;
        rechecks = refl;
        links = links_set cs (plain_of s) (is_at (nat_cmp conn.0)) es ps (record c { inbox = record { kept = c.inbox.kept ++ piece; ended = false } })
            (record l.0 { sent = l.0.sent ++ piece }) h (record { identity = l.2.identity; kept = serves_more l.0.served l.0.sent c.inbox.kept piece l.2.kept; goes_on = refl; watching = l.2.watching });
      },
    )

-- bytes that were too many
pub fed_full : (s : State) (o : PolicyObjects) (ms : Tracked) (es : List (ℕ × Connection)) (n : ℕ) (on : Bool) (conn : ConnId) (piece : List ℕ) (c : Connection)
    → lookup (is_at (nat_cmp conn.0)) es ≡ Some c → kept_limit < length c.inbox.kept + length piece
    → (cs : List PlainChange) → HasHistory s cs → HasPolicy s o → HasMarks s ms → (ps : List (ℕ × Link)) → AreLinks cs (plain_of s) es ps → Made s o ms es n on (machine_of s cs n on ps) (event.Feed conn piece) told.Full
unfolding step feed_step
fed_full s o ms es n on conn piece c there many cs k p v ps h =
    let l = link_there cs (plain_of s) (is_at (nat_cmp conn.0)) es ps c h there in
    let rest = serves_rest l.0.served l.0.sent c.inbox.kept l.2.kept in
    rw (l.1, rest, lt-leb (length c.inbox.kept + length piece) kept_limit many) (refl, record { store = k; policy_is = p; covers = v; next_id = refl; rechecks = refl; links = h })

-- bytes on no connection
pub fed_nowhere : (s : State) (o : PolicyObjects) (ms : Tracked) (es : List (ℕ × Connection)) (n : ℕ) (on : Bool) (conn : ConnId) (piece : List ℕ)
    → lookup (is_at (nat_cmp conn.0)) es ≡ None
    → (cs : List PlainChange) → HasHistory s cs → HasPolicy s o → HasMarks s ms → (ps : List (ℕ × Link)) → AreLinks cs (plain_of s) es ps → Made s o ms es n on (machine_of s cs n on ps) (event.Feed conn piece) told.Ended
unfolding step feed_step
fed_nowhere s o ms es n on conn piece missing cs k p v ps h =
    rw (link_missing cs (plain_of s) (is_at (nat_cmp conn.0)) es ps h missing) (refl, record { store = k; policy_is = p; covers = v; next_id = refl; rechecks = refl; links = h })

-- a connection that was closed, or was none
pub closed : (s : State) (o : PolicyObjects) (ms : Tracked) (es fs : List (ℕ × Connection)) (n : ℕ) (on : Bool) (conn : ConnId) → fs ≡ remove_entry (is_at (nat_cmp conn.0)) es
    → (cs : List PlainChange) → HasHistory s cs → HasPolicy s o → HasMarks s ms → (ps : List (ℕ × Link)) → AreLinks cs (plain_of s) es ps → Made s o ms fs n on (machine_of s cs n on ps) (event.Close conn) told.Done
unfolding step
closed s o ms es fs n on conn is cs k p v ps h = rw is (refl, record { store = k; policy_is = p; covers = v; next_id = refl; rechecks = refl; links = links_removed cs (plain_of s) (is_at (nat_cmp conn.0)) es ps h })

-- there is nothing to serve, as there is no connection
pub served_nowhere : (s : State) (o : PolicyObjects) (ms : Tracked) (es : List (ℕ × Connection)) (n : ℕ) (on : Bool) (conn : ConnId)
    → lookup (is_at (nat_cmp conn.0)) es ≡ None
    → (cs : List PlainChange) → HasHistory s cs → HasPolicy s o → HasMarks s ms → (ps : List (ℕ × Link)) → AreLinks cs (plain_of s) es ps → Made s o ms es n on (machine_of s cs n on ps) (event.Serve conn) told.Nothing
unfolding step serve_step
served_nowhere s o ms es n on conn missing cs k p v ps h =
    rw (link_missing cs (plain_of s) (is_at (nat_cmp conn.0)) es ps h missing) (refl, record { store = k; policy_is = p; covers = v; next_id = refl; rechecks = refl; links = h })

-- there is nothing to serve, while a watch runs
pub served_beside : (s : State) (o : PolicyObjects) (ms : Tracked) (es : List (ℕ × Connection)) (n : ℕ) (on : Bool) (conn : ConnId) (c : Connection) (r : Watching)
    → lookup (is_at (nat_cmp conn.0)) es ≡ Some c → c.watching ≡ Some r
    → (cs : List PlainChange) → HasHistory s cs → HasPolicy s o → HasMarks s ms → (ps : List (ℕ × Link)) → AreLinks cs (plain_of s) es ps → Made s o ms es n on (machine_of s cs n on ps) (event.Serve conn) told.Nothing
unfolding step serve_step serve_beside
served_beside s o ms es n on conn c r there runs cs k p v ps h =
    let l = link_there cs (plain_of s) (is_at (nat_cmp conn.0)) es ps c h there in
    let w = watching_there cs (plain_of s) r c.watching l.0.watching runs l.2.watching in
    rw (l.1, w.1) (refl, record { store = k; policy_is = p; covers = v; next_id = refl; rechecks = refl; links = h })

-- there is nothing to serve, as no request is whole
pub served_nothing : (s : State) (o : PolicyObjects) (ms : Tracked) (es : List (ℕ × Connection)) (n : ℕ) (on : Bool) (conn : ConnId) (c : Connection)
    → lookup (is_at (nat_cmp conn.0)) es ≡ Some c → c.watching ≡ None → next_of c.inbox ≡ None
    → (cs : List PlainChange) → HasHistory s cs → HasPolicy s o → HasMarks s ms → (ps : List (ℕ × Link)) → AreLinks cs (plain_of s) es ps → Made s o ms es n on (machine_of s cs n on ps) (event.Serve conn) told.Nothing
unfolding step serve_step serve_beside serve_item
served_nothing s o ms es n on conn c there idle none cs k p v ps h =
    let l = link_there cs (plain_of s) (is_at (nat_cmp conn.0)) es ps c h there in
    let rest = serves_rest l.0.served l.0.sent c.inbox.kept l.2.kept in
    let first_none : first c.inbox.kept ≡ None = rw l.2.goes_on at none in
    rw (l.1, watching_missing cs (plain_of s) c.watching l.0.watching idle l.2.watching, rest, first_none) (refl, record { store = k; policy_is = p; covers = v; next_id = refl; rechecks = refl; links = h })

-- a fault ends its connection
fault_closes : (objects : PolicyObjects) (plain : Plain) (identity : Identity) (fault : HttpFault) → (answer objects plain identity (Err fault)).reply.close ≡ true
unfolding answer fault_reply
fault_closes objects plain identity fault = refl

-- the connection and the link after a request was served
abbrev pub connection_after : Connection → Result HttpRequest HttpFault → Option Watching → Connection
connection_after c item r = record c { inbox = after_next c.inbox item; watching = r }

abbrev link_after : Link → Option PlainWatching → Link
link_after l w = record l { served = suc l.served; watching = w }

-- a connection that goes on after its request was served
goes_on : (history : List PlainChange) (objects : PolicyObjects) (plain : Plain) (identity : Identity) (c : Connection) (l : Link) (item : Result HttpRequest HttpFault) (r : Option Watching) (w : Option PlainWatching)
    → IsLink history plain c l → AreWatching history plain r w → first c.inbox.kept ≡ Some item
    → (answer objects plain identity item).reply.close ≡ false → IsLink history plain (connection_after c item r) (link_after l w)
goes_on history objects plain identity c l (Ok request) r w h watch e open' =
    record { identity = h.identity; kept = serves_next l.served l.sent c.inbox.kept request h.kept e; goes_on = h.goes_on; watching = watch }
goes_on history objects plain identity c l (Err fault) r w h watch e open' = absurd (let both : true ≡ false = sym (fault_closes objects plain identity fault) ∙ open' in cc both)

-- the connections after a request was served
abbrev pub connections_after : Bool → ℕ → Connection → Result HttpRequest HttpFault → Option Watching → List (ℕ × Connection) → List (ℕ × Connection)
connections_after close id c item r es =
    if close then remove_entry (is_at (nat_cmp id)) (set_value (is_at (nat_cmp id)) es (connection_after c item r))
    else set_value (is_at (nat_cmp id)) es (connection_after c item r)

-- the same connections, before the changes of the request
links_served : (close : Bool) (history : List PlainChange) (plain : Plain) (objects : PolicyObjects) (id n : ℕ) (on : Bool) (c : Connection) (l : Link) (item : Result HttpRequest HttpFault) (r : Option Watching) (w : Option PlainWatching) (es : List (ℕ × Connection)) (ps : List (ℕ × Link))
    → AreLinks history plain es ps → IsLink history plain c l → AreWatching history plain r w → first c.inbox.kept ≡ Some item → (answer objects plain c.identity item).reply.close ≡ close
    → AreLinks history plain (connections_after close id c item r es) (ended_if close id (with_link id (link_after l w) (record { store = plain; changes = history; next_id = n; links = ps; rechecks = on }))).links
links_served true history plain objects id n on c l item r w es ps h k watch e close =
    rw (removed_set (is_at (nat_cmp id)) es (connection_after c item r), removed_set (is_at (nat_cmp id)) ps (link_after l w)) (links_removed history plain (is_at (nat_cmp id)) es ps h)
links_served false history plain objects id n on c l item r w es ps h k watch e close =
    links_set history plain (is_at (nat_cmp id)) es ps (connection_after c item r) (link_after l w) h (goes_on history objects plain c.identity c l item r w k watch e close)

-- the machine after a request was served
after_served : (close : Bool) (s t : State) (o u : PolicyObjects) (ms ns : Tracked) (cs : List PlainChange) (n id : ℕ) (on : Bool) (c : Connection) (l : Link) (item : Result HttpRequest HttpFault) (r : Option Watching) (w : Option PlainWatching) (changes : List PlainChange) (es : List (ℕ × Connection)) (ps : List (ℕ × Link))
    → HasHistory s cs → HasPolicy s o → HasMarks s ms → AreLinks cs (plain_of s) es ps → IsLink cs (plain_of s) c l → AreWatching cs (plain_of s) r w → first c.inbox.kept ≡ Some item → (answer o (plain_of s) c.identity item).reply.close ≡ close → Writes s o ms t u ns changes
    → RefinesMachine t u ns (connections_after close id c item r es) n on (ended_if close id (changed changes (with_link id (link_after l w) (machine_of s cs n on ps))))
after_served close s t o u ms ns cs n id on c l item r w changes es ps known policy covers h k watch e closes follows =
    let after = follows cs (plain_of s) known policy covers in
    let links = links_served close cs (plain_of s) o id n on c l item r w es ps h k watch e closes in
    by_close close after.0 after.1 after.2
    (links_written cs changes (plain_of s) (changes_follow s t cs changes (plain_of s) known after.0) (connections_after close id c item r es) _ links)
  where
    by_close : (close : Bool) → RefinesPlain t (cs ++ changes) (written changes (plain_of s)) → u ≡ policy_objects (written changes (plain_of s)).objects → Covers ns (roles_in (written changes (plain_of s)).objects)
        → AreLinks (cs ++ changes) (written changes (plain_of s)) (connections_after close id c item r es) (ended_if close id (with_link id (link_after l w) (machine_of s cs n on ps))).links
        → RefinesMachine t u ns (connections_after close id c item r es) n on (ended_if close id (changed changes (with_link id (link_after l w) (machine_of s cs n on ps))))
    by_close true store policy covers links = record { store = store; policy_is = policy; covers = covers; next_id = refl; rechecks = refl; links = links }
    by_close false store policy covers links = record { store = store; policy_is = policy; covers = covers; next_id = refl; rechecks = refl; links = links }

-- a request that was served
pub served : (s t : State) (o u : PolicyObjects) (ms ns : Tracked) (es fs : List (ℕ × Connection)) (n : ℕ) (on : Bool) (conn : ConnId) (c : Connection) (item : Result HttpRequest HttpFault) (r : Option Watching) (answered : Answered)
    → lookup (is_at (nat_cmp conn.0)) es ≡ Some c → c.watching ≡ None → next_of c.inbox ≡ Some item → answered ≡ answer o (plain_of s) c.identity item
    → ((cs : List PlainChange) → AreWatching cs (plain_of s) r answered.watch)
    → Writes s o ms t u ns answered.changes → fs ≡ connections_after answered.reply.close conn.0 c item r es
    → (cs : List PlainChange) → HasHistory s cs → HasPolicy s o → HasMarks s ms → (ps : List (ℕ × Link)) → AreLinks cs (plain_of s) es ps → Made t u ns fs n on (machine_of s cs n on ps) (event.Serve conn) (told.Sent (output_of answered))
unfolding step serve_step serve_beside serve_item after_serve
served s t o u ms ns es fs n on conn c item r answered there idle some is watch follows links cs k p v ps h =
    let l = link_there cs (plain_of s) (is_at (nat_cmp conn.0)) es ps c h there in
    let rest = serves_rest l.0.served l.0.sent c.inbox.kept l.2.kept in
    let first_some : first c.inbox.kept ≡ Some item = rw l.2.goes_on at some in
    let made : answer (policy_objects (plain_of s).objects) (plain_of s) l.0.identity item ≡ answered =
    sym (is ∙ ap (λ identity. answer o (plain_of s) identity item) l.2.identity ∙ ap (λ objects. answer objects (plain_of s) l.0.identity item) p) in
    rw (l.1, watching_missing cs (plain_of s) c.watching l.0.watching idle l.2.watching, rest, first_some, made, links)
    (refl, after_served answered.reply.close s t o u ms ns cs n conn.0 on c l.0 item r answered.watch answered.changes es ps k p v h l.2 (watch cs) first_some (ap (λ a. a.reply.close) (sym is)) follows)
