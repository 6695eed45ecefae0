-- A pump of the running machine is that of the model.
use Rattle.std.proofs.Common.{◌≡◌, ℕ, Bool, false, List, Option, Some, None, option_map, refl, ap, ◌∙◌}
use Rattle.std.specs.BTreeMap.{is_at}
use Rattle.std.specs.Map.{lookup}
use Rattle.std.specs.Ordering.{nat_cmp}
use Rattle.kapi_aggregation.specs.Marks.{Tracked}
use Rattle.kapi_answer.specs.Watch.{PlainWatching, RefinesWatching, event_reply_of, rechecked}
use Rattle.kapi_answer.specs.declared.watch.After.{After}
use Rattle.kapi_answer.specs.declared.watch.After.TheVariants as becomes
use Rattle.kapi_answer.specs.declared.watch.EventReply.{EventReply}
use Rattle.kapi_answer.specs.declared.watch.Watching.{Watching}
use Rattle.kapi_policy.specs.Objects.{PolicyObjects}
use Rattle.kapi_store.specs.Plain.{Plain, PlainChange, RefinesPlain, plain_of}
use Rattle.kapi_store.specs.State.{State}
use Rattle.kapi_escalation.specs.Reading.{policy_objects}
use Rattle.kapi_watch.specs.Running.{at_place}
use Rattle.kapi_watch.specs.Watches.{pumped}
use Rattle.kapi_watch.specs.declared.watch.Cursor.{Cursor}
use Rattle.kapi_core.specs.Private.Feeds.{MovesOn, passed}
use Rattle.kapi_core.specs.Machine.{Link, Machine, after_event, event_output, link_at, pump_shown, pump_step, pump_watch, shown_next, step, watched_on}
use Rattle.kapi_core.specs.Refines.{AreLinks, IsLink, RefinesMachine, is_early}
use Rattle.kapi_core.specs.declared.connection.Connection.{Connection}
use Rattle.kapi_core.specs.declared.event.Answer.TheVariants as told
use Rattle.kapi_core.specs.declared.event.ConnId.{ConnId}
use Rattle.kapi_core.specs.declared.event.Event.TheVariants as event
use Rattle.kapi_core.proofs.AlikeLinks.{link_missing, link_there, links_removed, links_set}
use Rattle.kapi_core.proofs.Steps.{HasHistory, HasMarks, HasPolicy, Made, machine_of, watching_missing, watching_there}

-- a pump is answered late, if at all
pub pumped_late : (m : Machine) (conn : ConnId) → is_early (step m (event.Pump conn)).0 ≡ false
unfolding step pump_step pump_watch pump_shown
pumped_late m conn = by_link (link_at conn.0 m)
  where
    by_reply : (l : Link) (w : PlainWatching) (r : Option EventReply) → is_early (pump_shown conn.0 l w r m).0 ≡ false
    by_reply l w None = refl
    by_reply l w (Some r) = refl

    by_watch : (l : Link) (w : Option PlainWatching) → is_early (pump_watch conn.0 l w m).0 ≡ false
    by_watch l None = refl
    by_watch l (Some w) = by_reply l w (option_map (event_reply_of m.store w) (shown_next m w))

    by_link : (o : Option Link) → is_early (pump_step conn.0 o m).0 ≡ false
    by_link None = refl
    by_link (Some l) = by_watch l l.watching

-- there is no connection
pub pumped_nowhere : (s : State) (o : PolicyObjects) (ms : Tracked) (es : List (ℕ × Connection)) (n : ℕ) (on : Bool) (conn : ConnId) → lookup (is_at (nat_cmp conn.0)) es ≡ None
    → (cs : List PlainChange) → HasHistory s cs → HasPolicy s o → HasMarks s ms → (ps : List (ℕ × Link)) → AreLinks cs (plain_of s) es ps → Made s o ms es n on (machine_of s cs n on ps) (event.Pump conn) told.Nothing
unfolding step pump_step
pumped_nowhere s o ms es n on conn missing cs k p v ps h =
    rw (link_missing cs (plain_of s) (is_at (nat_cmp conn.0)) es ps h missing) (refl, record { store = k; policy_is = p; covers = v; next_id = refl; rechecks = refl; links = h })

-- the connection has no watch
pub pumped_idle : (s : State) (o : PolicyObjects) (ms : Tracked) (es : List (ℕ × Connection)) (n : ℕ) (on : Bool) (conn : ConnId) (c : Connection) → lookup (is_at (nat_cmp conn.0)) es ≡ Some c → c.watching ≡ None
    → (cs : List PlainChange) → HasHistory s cs → HasPolicy s o → HasMarks s ms → (ps : List (ℕ × Link)) → AreLinks cs (plain_of s) es ps → Made s o ms es n on (machine_of s cs n on ps) (event.Pump conn) told.Nothing
unfolding step pump_step pump_watch
pumped_idle s o ms es n on conn c there idle cs k p v ps h =
    let l = link_there cs (plain_of s) (is_at (nat_cmp conn.0)) es ps c h there in
    rw (l.1, watching_missing cs (plain_of s) c.watching l.0.watching idle l.2.watching) (refl, record { store = k; policy_is = p; covers = v; next_id = refl; rechecks = refl; links = h })

-- what a running watch sends next, for every model's watch that it refines
abbrev pub SendsNext : State → PolicyObjects → Bool → Watching → Option EventReply → Type 0
SendsNext s o on r reply = (cs : List PlainChange) (p : Plain) (w : PlainWatching) → RefinesPlain s cs p → RefinesWatching r cs p w
    → reply ≡ option_map (event_reply_of p w) (rechecked on o w (pumped cs p w.watch))

-- what a running watch sends next, for the model that is refined
sends_of : (s : State) (o : PolicyObjects) (on : Bool) (r : Watching) (reply : Option EventReply) → SendsNext s o on r reply
    → (cs : List PlainChange) (w : PlainWatching) → HasHistory s cs → HasPolicy s o → RefinesWatching r cs (plain_of s) w
    → reply ≡ option_map (event_reply_of (plain_of s) w) (rechecked on (policy_objects (plain_of s).objects) w (pumped cs (plain_of s) w.watch))
sends_of s o on r reply sends cs w k p stands =
    sends cs (plain_of s) w k stands ∙ ap (λ objects. option_map (event_reply_of (plain_of s) w) (rechecked on objects w (pumped cs (plain_of s) w.watch))) p

-- the connections after an event
links_passed : (s : State) (es fs : List (ℕ × Connection)) (id n : ℕ) (on : Bool) (c : Connection) (r : Watching) (a : After) (place : Cursor) (cs : List PlainChange) (ps : List (ℕ × Link)) (l : Link) (w : PlainWatching)
    → HasHistory s cs → AreLinks cs (plain_of s) es ps → IsLink cs (plain_of s) c l → RefinesWatching r cs (plain_of s) w → MovesOn s r place → fs ≡ passed es id c r a place
    → AreLinks cs (plain_of s) fs (after_event a id l w (machine_of s cs n on ps)).links
unfolding after_event
links_passed s es fs id n on c r becomes.Watches place cs ps l w known h k stands moves is =
    rw is
    (links_set cs (plain_of s) (is_at (nat_cmp id)) es ps (record c { watching = Some (record r { watch = at_place r.watch place }) }) (watched_on l w (machine_of s cs n on ps)) h
    (record { identity = k.identity; kept = k.kept; goes_on = k.goes_on; watching = moves cs (plain_of s) w known stands }))
links_passed s es fs id n on c r becomes.WatchEnded place cs ps l w known h k stands moves is =
    rw is
    (links_set cs (plain_of s) (is_at (nat_cmp id)) es ps (record c { watching = None }) (record l { watching = None }) h
    (record { identity = k.identity; kept = k.kept; goes_on = k.goes_on; watching = tt }))
links_passed s es fs id n on c r becomes.Closes place cs ps l w known h k stands moves is = rw is (links_removed cs (plain_of s) (is_at (nat_cmp id)) es ps h)

-- the machine after an event
event_stands : (s : State) (o : PolicyObjects) (ms : Tracked) (fs : List (ℕ × Connection)) (n id : ℕ) (on : Bool) (a : After) (cs : List PlainChange) (ps : List (ℕ × Link)) (l : Link) (w : PlainWatching)
    → HasHistory s cs → HasPolicy s o → HasMarks s ms → AreLinks cs (plain_of s) fs (after_event a id l w (machine_of s cs n on ps)).links
    → RefinesMachine s o ms fs n on (after_event a id l w (machine_of s cs n on ps))
unfolding after_event
event_stands s o ms fs n id on becomes.Watches cs ps l w k p v h = record { store = k; policy_is = p; covers = v; next_id = refl; rechecks = refl; links = h }
event_stands s o ms fs n id on becomes.WatchEnded cs ps l w k p v h = record { store = k; policy_is = p; covers = v; next_id = refl; rechecks = refl; links = h }
event_stands s o ms fs n id on becomes.Closes cs ps l w k p v h = record { store = k; policy_is = p; covers = v; next_id = refl; rechecks = refl; links = h }

-- an event is sent
pub pumped_event : (s : State) (o : PolicyObjects) (ms : Tracked) (es fs : List (ℕ × Connection)) (n : ℕ) (on : Bool) (conn : ConnId) (c : Connection) (r : Watching) (reply : EventReply) (place : Cursor)
    → lookup (is_at (nat_cmp conn.0)) es ≡ Some c → c.watching ≡ Some r → SendsNext s o on r (Some reply) → MovesOn s r place → fs ≡ passed es conn.0 c r reply.after place
    → (cs : List PlainChange) → HasHistory s cs → HasPolicy s o → HasMarks s ms → (ps : List (ℕ × Link)) → AreLinks cs (plain_of s) es ps
    → Made s o ms fs n on (machine_of s cs n on ps) (event.Pump conn) (told.Sent (event_output reply))
unfolding step pump_step pump_watch pump_shown
pumped_event s o ms es fs n on conn c r reply place there runs sends moves passes cs k p v ps h =
    let l = link_there cs (plain_of s) (is_at (nat_cmp conn.0)) es ps c h there in
    let w = watching_there cs (plain_of s) r c.watching l.0.watching runs l.2.watching in
    rw (l.1, w.1, ← sends_of s o on r _ sends cs w.0 k p w.2) (
      refl,
      event_stands s o ms fs n conn.0 on reply.after cs ps l.0 w.0 k p v (links_passed s es fs conn.0 n on c r reply.after place cs ps l.0 w.0 k h l.2 w.2 moves passes),
    )

-- there is nothing to show, and the watch moves on
pub pumped_nothing : (s : State) (o : PolicyObjects) (ms : Tracked) (es fs : List (ℕ × Connection)) (n : ℕ) (on : Bool) (conn : ConnId) (c : Connection) (r : Watching) (place : Cursor)
    → lookup (is_at (nat_cmp conn.0)) es ≡ Some c → c.watching ≡ Some r → SendsNext s o on r None → MovesOn s r place → fs ≡ passed es conn.0 c r becomes.Watches place
    → (cs : List PlainChange) → HasHistory s cs → HasPolicy s o → HasMarks s ms → (ps : List (ℕ × Link)) → AreLinks cs (plain_of s) es ps
    → Made s o ms fs n on (machine_of s cs n on ps) (event.Pump conn) told.Nothing
unfolding step pump_step pump_watch pump_shown after_event
pumped_nothing s o ms es fs n on conn c r place there runs sends moves passes cs k p v ps h =
    let l = link_there cs (plain_of s) (is_at (nat_cmp conn.0)) es ps c h there in
    let w = watching_there cs (plain_of s) r c.watching l.0.watching runs l.2.watching in
    rw (l.1, w.1, ← sends_of s o on r _ sends cs w.0 k p w.2) (
      refl,
      record {
        store = k;
        policy_is = p;
        covers = v;
        next_id = refl;
        rechecks = refl;
        links = links_passed s es fs conn.0 n on c r becomes.Watches place cs ps l.0 w.0 k h l.2 w.2 moves passes;
      },
    )
