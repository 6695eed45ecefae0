-- Events over which a connection shows a watch are a run of it.
use Rattle.std.proofs.Common.{◌≡◌, ℕ, ◌+◌, ◌==◌, List, [], ◌∷◌, ◌++◌, length, drop, nat_lt, nat_le, Bool, true, false, ◌&&◌, if◌then◌else◌, Option, Some, None, option_map, slice_get, refl, sym, ap, ◌∙◌, subst, append-nil, ◌⊎◌, inl, inr, not}
use Rattle.std.specs.Prelude.{IsSome}
use Rattle.std.specs.BTreeMap.{is_at}
use Rattle.std.specs.List.{cons_option}
use Rattle.std.specs.Map.{lookup}
use Rattle.std.specs.Ordering.{nat_cmp}
use Rattle.std.specs.Option.{option_and_then}
use Rattle.std.proofs.lemmas.Bool.{eqb-false, eqb-true}
use Rattle.std.proofs.lemmas.List.{drop_at}
use Rattle.kapi_answer.specs.Watch.{PlainWatching, after_end, event_reply_of, may_go_on, rechecked}
use Rattle.kapi_core.specs.Limits.{kept_limit, last_connection, open_connections}
use Rattle.kapi_model.specs.declared.identity.Identity.{Identity}
use Rattle.kapi_store.specs.Plain.{Plain, PlainChange, written}
use Rattle.kapi_watch.specs.Lists.{all_on_top, list_at}
use Rattle.kapi_watch.specs.Runs.{HoldsOn, Made, Pump, Step, history_after, shown_over, still_due, watch_after}
use Rattle.kapi_watch.specs.Shown.{Added, Deleted, Expired, Modified, Refused, Shown}
use Rattle.kapi_watch.specs.Watches.{PlainWatch, after_pump, due, is_expired, pumped, started_at, started_now}
use Rattle.kapi_core.proofs.Histories.{HasHistory, Writes, are_named, event_writes, served_has, writes_go_on}
use Rattle.kapi_core.proofs.Listed.{first_shown_is_listed, shown_is_listed}
use Rattle.kapi_core.proofs.Numbered.{AreNumbered, Touches, event_touches, found_gone, found_new, found_own, served_numbered, there, turn_links}
use Rattle.kapi_core.specs.Histories.{list_of, served}
use Rattle.kapi_core.specs.Machine.{Link, Machine, after, after_event, feed_step, link_at, new_link, open_step, policy_of, pump_shown, pump_step, pump_watch, serve_beside, serve_step, shown_next, step, unserved, watched_on, with_new_link, without_link}
use Rattle.kapi_core.specs.Pumps.{EventsAreARun, FirstSentIsListed, IsRun, SentIsListed, WatchesOn, bytes_of, line_of, lines_of, made_by, moment_of, run_on, sent_by, sent_on, watch_on}
use Rattle.kapi_core.specs.declared.event.Answer.{Answer}
use Rattle.kapi_core.specs.declared.event.Answer.TheVariants as told
use Rattle.kapi_core.specs.declared.event.Event.{Event}
use Rattle.kapi_core.specs.declared.event.Event.TheVariants as event

-- the watch of a link, if there is one
abbrev watch_of : Option Link → Option PlainWatching
watch_of o = option_and_then (λ (l : Link). l.watching) o

-- the watch that was pumped
abbrev pumped_on : Machine → PlainWatching → PlainWatching
pumped_on m w = record w { watch = after_pump m.changes m.store w.watch }

-- an event of the connection's watch makes changes and leaves the watch, or pumps it and sends what it shows
Passes : ℕ → Machine → Machine → List ℕ → PlainWatching → Step → Type 0
Passes id m n sent w (Made cs) = (n.changes ≡ m.changes ++ cs) × (n.store ≡ written cs m.store) × (watch_on id n ≡ Some w) × (sent ≡ [])
Passes id m n sent w Pump =
    (n.changes ≡ m.changes) × (n.store ≡ m.store) × (is_expired m.store w.watch ≡ false) × (watch_on id n ≡ Some (pumped_on m w))
    × (sent ≡ lines_of (cons_option (pumped m.changes m.store w.watch) []))

-- no watch is shown if there is none
no_watch : {A : Type 0} (id : ℕ) (n : Machine) → watch_on id n ≡ None → IsSome (watch_on id n) → A
no_watch id n none some = let P : Option PlainWatching → Type 0 = IsSome in absurd (cc (subst P none some))

-- ---- events that are no pump

-- the watch that a connection shows, if an event is about another
elsewhere : (id k : ℕ) (m n : Machine) → Touches k m n → (k == id) ≡ false → watch_on id n ≡ watch_on id m
elsewhere id k m n t differs = ap watch_of (t.others id (λ is. eqb-false k id differs (sym is)))

made_is : (m : Machine) (e : Event) (k : Writes m (step m e).1) → made_by m e ≡ k.changes
made_is m e k = ap (drop (length m.changes)) k.told ∙ drop_at m.changes k.changes (length m.changes) refl

passes_made : (id : ℕ) (m : Machine) (e : Event) (sent : List ℕ) (w : PlainWatching) → Writes m (step m e).1 → watch_on id (step m e).1 ≡ Some w → sent ≡ []
    → Passes id m (step m e).1 sent w (Made (made_by m e))
unfolding Passes
passes_made id m e sent w k still none =
    (k.told ∙ ap (λ cs. m.changes ++ cs) (sym (made_is m e k)), k.store ∙ ap (λ cs. written cs m.store) (sym (made_is m e k)), still, none)

still_if : (id : ℕ) (w : PlainWatching) (b : Bool) (x y : Answer × Machine) → (IsSome (watch_on id x.1) → watch_on id x.1 ≡ Some w) → (IsSome (watch_on id y.1) → watch_on id y.1 ≡ Some w)
    → IsSome (watch_on id (if b then x else y).1) → watch_on id (if b then x else y).1 ≡ Some w
still_if id w true x y one other some = one some
still_if id w false x y one other some = other some

-- a connection that was just opened shows no watch
opened_still : (identity : Identity) (m : Machine) (w : PlainWatching) → watch_on m.next_id m ≡ Some w → IsSome (watch_on m.next_id (open_step identity m).1)
    → watch_on m.next_id (open_step identity m).1 ≡ Some w
unfolding open_step
opened_still identity m w is =
    still_if m.next_id w (nat_lt (length m.links) open_connections && nat_le m.next_id last_connection) _ _
    (no_watch m.next_id (with_new_link m.next_id (new_link identity) m) (ap watch_of (found_new m.next_id (new_link identity) m)))
    (λ some. is)

fed_still : (id : ℕ) (piece : List ℕ) (m : Machine) (w : PlainWatching) (o : Option Link) → link_at id m ≡ o → watch_on id m ≡ Some w → IsSome (watch_on id (feed_step id piece o m).1)
    → watch_on id (feed_step id piece o m).1 ≡ Some w
unfolding feed_step
fed_still id piece m w None at is some = is
fed_still id piece m w (Some l) at is some =
    still_if id w (nat_le (length (unserved l) + length piece) kept_limit) _ _
    (λ some. ap watch_of (found_own id (record l { sent = l.sent ++ piece }) m (there id m l at)) ∙ ap watch_of (sym at) ∙ is)
    (λ some. is)
    some

-- while the watch runs, no request is served
serve_silent : (id : ℕ) (m : Machine) (w : PlainWatching) (o : Option Link) → link_at id m ≡ o → watch_on id m ≡ Some w → serve_step id o m ≡ (told.Nothing, m)
unfolding serve_step serve_beside
serve_silent id m w None at is = refl
serve_silent id m w (Some l) at is = ap (λ x. serve_beside id l x m) (ap watch_of (sym at) ∙ is)

-- ---- a pump

pub pump_is : (id : ℕ) (m : Machine) (w : PlainWatching) (o : Option Link) → link_at id m ≡ o → watch_on id m ≡ Some w
    → (l : Link) × (link_at id m ≡ Some l) × (pump_step id o m ≡ pump_shown id l w (option_map (event_reply_of m.store w) (shown_next m w)) m)
unfolding pump_step pump_watch
pump_is id m w None at is = absurd (cc (ap watch_of (sym at) ∙ is))
pump_is id m w (Some l) at is = (l, at, ap (λ x. pump_watch id l x m) (ap watch_of (sym at) ∙ is))

-- a watch that does not show its end can go on
goes_on : (m : Machine) (w : PlainWatching) → (pumped m.changes m.store w.watch ≡ Some Expired → ⊥) → is_expired m.store w.watch ≡ false
goes_on m w never = by_case (is_expired m.store w.watch) refl
  where
    by_case : (b : Bool) → is_expired m.store w.watch ≡ b → is_expired m.store w.watch ≡ false
    by_case true is = absurd (never (ap (λ b. if b then Some Expired else option_map (λ (e : ℕ × Shown). e.1) (slice_get (due m.changes w.watch) w.watch.shown)) is))
    by_case false is = is

-- a watch that shows its end is gone from its connection
ended : (id : ℕ) (m : Machine) (l : Link) (w : PlainWatching) → link_at id m ≡ Some l → AreNumbered m → (close : Bool) → watch_on id (after_event (after_end close) id l w m) ≡ None
unfolding after_event
ended id m l w at k true = ap watch_of (found_gone id m k)
ended id m l w at k false = ap watch_of (found_own id (record l { watching = None }) m (there id m l at))

passes_shown : (id : ℕ) (m : Machine) (l : Link) (w : PlainWatching) → link_at id m ≡ Some l → AreNumbered m → (q : Option Shown) → pumped m.changes m.store w.watch ≡ q
    → IsSome (watch_on id (pump_shown id l w (option_map (event_reply_of m.store w) q) m).1)
    → Passes id m (pump_shown id l w (option_map (event_reply_of m.store w) q) m).1 (bytes_of (pump_shown id l w (option_map (event_reply_of m.store w) q) m).0) w Pump
unfolding Passes pump_shown after_event event_reply_of lines_of
passes_shown id m l w at k None is some =
    (refl, refl, goes_on m w (λ bad. cc (sym is ∙ bad)), ap watch_of (found_own id (watched_on l w m) m (there id m l at)), ap (λ q. lines_of (cons_option q [])) (sym is))
passes_shown id m l w at k (Some (Added tree)) is some =
    (refl, refl, goes_on m w (λ bad. cc (sym is ∙ bad)), ap watch_of (found_own id (watched_on l w m) m (there id m l at)), sym (append-nil (line_of (Added tree))) ∙ ap (λ q. lines_of (cons_option q [])) (sym is))
passes_shown id m l w at k (Some (Modified tree)) is some =
    (refl, refl, goes_on m w (λ bad. cc (sym is ∙ bad)), ap watch_of (found_own id (watched_on l w m) m (there id m l at)), sym (append-nil (line_of (Modified tree))) ∙ ap (λ q. lines_of (cons_option q [])) (sym is))
passes_shown id m l w at k (Some (Deleted tree)) is some =
    (refl, refl, goes_on m w (λ bad. cc (sym is ∙ bad)), ap watch_of (found_own id (watched_on l w m) m (there id m l at)), sym (append-nil (line_of (Deleted tree))) ∙ ap (λ q. lines_of (cons_option q [])) (sym is))
passes_shown id m l w at k (Some Expired) is some = no_watch id (after_event (after_end w.close) id l w m) (ended id m l w at k w.close) some
passes_shown id m l w at k (Some Refused) is some = no_watch id (after_event (after_end w.close) id l w m) (ended id m l w at k w.close) some

-- that rights were taken away ends the watch
refused_ends : (id : ℕ) (m : Machine) (l : Link) (w : PlainWatching) → link_at id m ≡ Some l → AreNumbered m
    → IsSome (watch_on id (pump_shown id l w (option_map (event_reply_of m.store w) (Some Refused)) m).1)
    → Passes id m (pump_shown id l w (option_map (event_reply_of m.store w) (Some Refused)) m).1 (bytes_of (pump_shown id l w (option_map (event_reply_of m.store w) (Some Refused)) m).0) w Pump
unfolding Passes pump_shown after_event event_reply_of
refused_ends id m l w at k some = no_watch id (after_event (after_end w.close) id l w m) (ended id m l w at k w.close) some

-- what is shown next is the refusal, or what a pump shows
pub shown_or : (m : Machine) (w : PlainWatching) → (shown_next m w ≡ Some Refused) ⊎ (shown_next m w ≡ pumped m.changes m.store w.watch)
unfolding rechecked
shown_or m w = by_test (m.rechecks && not (may_go_on (policy_of m) w))
  where
    by_test : (b : Bool) → ((if b then Some Refused else pumped m.changes m.store w.watch) ≡ Some Refused) ⊎ ((if b then Some Refused else pumped m.changes m.store w.watch) ≡ pumped m.changes m.store w.watch)
    by_test true = inl refl
    by_test false = inr refl

passes_pump : (id : ℕ) (m : Machine) (w : PlainWatching) → AreNumbered m → watch_on id m ≡ Some w → IsSome (watch_on id (pump_step id (link_at id m) m).1)
    → Passes id m (pump_step id (link_at id m) m).1 (bytes_of (pump_step id (link_at id m) m).0) w Pump
passes_pump id m w k is some =
    let p = pump_is id m w (link_at id m) refl is in
    let P : Answer × Machine → Type 0 = λ x. IsSome (watch_on id x.1) in
    let Q : Answer × Machine → Type 0 = λ x. Passes id m x.1 (bytes_of x.0) w Pump in
    let next : Option Shown → Answer × Machine = λ q. pump_shown id p.0 w (option_map (event_reply_of m.store w) q) m in
    let R : Option Shown → Type 0 = λ q. P (next q) → Q (next q) in
    subst Q (sym p.2) (elim (shown_or m w) [
      | inl refused ↦ subst R (sym refused) (refused_ends id m p.0 w p.1 k) (subst P p.2 some)
      | inr same ↦ subst R (sym same) (passes_shown id m p.0 w p.1 k (pumped m.changes m.store w.watch) refl) (subst P p.2 some)
    ])

-- ---- each event

still_by : (id c : ℕ) (m n : Machine) (w : PlainWatching) → Touches c m n → watch_on id m ≡ Some w → (c ≡ id → watch_on id n ≡ Some w) → watch_on id n ≡ Some w
still_by id c m n w t is own = by_test (c == id) refl
  where
    by_test : (b : Bool) → (c == id) ≡ b → watch_on id n ≡ Some w
    by_test true same = own (eqb-true c id same)
    by_test false differs = elsewhere id c m n t differs ∙ is

passes : (id : ℕ) (m : Machine) (e : Event) (w : PlainWatching) → Writes m (step m e).1 → AreNumbered m → watch_on id m ≡ Some w → IsSome (watch_on id (step m e).1)
    → Passes id m (step m e).1 (sent_by id m e) w (moment_of id m e)
unfolding step
passes id m (event.Open identity) w one k is some =
    let e : Event = event.Open identity in
    let P : ℕ → Type 0 = λ q. watch_on q m ≡ Some w → IsSome (watch_on q (open_step identity m).1) → watch_on q (open_step identity m).1 ≡ Some w in
    passes_made id m e [] w one (still_by id m.next_id m (step m e).1 w (event_touches m e k) is (λ same. subst P same (opened_still identity m w) is some)) refl
passes id m (event.Feed conn piece) w one k is some =
    let e : Event = event.Feed conn piece in
    let n : Machine = (feed_step conn.0 piece (link_at conn.0 m) m).1 in
    let P : ℕ → Type 0 = λ q. watch_on q m ≡ Some w → IsSome (watch_on q n) → watch_on q n ≡ Some w in
    passes_made id m e [] w one (still_by id conn.0 m n w (event_touches m e k) is (λ same. subst P same (fed_still conn.0 piece m w (link_at conn.0 m) refl) is some)) refl
passes id m (event.Serve conn) w one k is some =
    passes_made id m e (sent_by id m e) w one (still_by id conn.0 m x.1 w (event_touches m e k) is (λ same. ap (λ y. watch_on id y.1) (silent same) ∙ is)) (by_test (conn.0 == id) refl)
  where
    e : Event
    e = event.Serve conn

    x : Answer × Machine
    x = serve_step conn.0 (link_at conn.0 m) m

    silent : conn.0 ≡ id → x ≡ (told.Nothing, m)
    silent same = let P : ℕ → Type 0 = λ q. watch_on q m ≡ Some w in serve_silent conn.0 m w (link_at conn.0 m) refl (subst P (sym same) is)

    by_test : (b : Bool) → (conn.0 == id) ≡ b → (if b then bytes_of x.0 else []) ≡ []
    by_test true same = ap (λ y. bytes_of y.0) (silent (eqb-true conn.0 id same))
    by_test false differs = refl
passes id m (event.Pump conn) w one k is some = by_test (conn.0 == id) refl
  where
    e : Event
    e = event.Pump conn

    x : Answer × Machine
    x = pump_step conn.0 (link_at conn.0 m) m

    by_test : (b : Bool) → (conn.0 == id) ≡ b → Passes id m x.1 (if b then bytes_of x.0 else []) w (if b then Pump else Made (made_by m e))
    by_test true same =
        let P : ℕ → Type 0 = λ q. watch_on q m ≡ Some w → IsSome (watch_on q x.1) → Passes q m x.1 (bytes_of x.0) w Pump in
        subst P (eqb-true conn.0 id same) (passes_pump conn.0 m w k) is some
    by_test false differs = passes_made id m e [] w one (elsewhere id conn.0 m x.1 (event_touches m e k) differs ∙ is) refl
passes id m event.Turn w one k is some =
    passes_made id m event.Turn [] w one (ap (λ es. watch_of (lookup (is_at (nat_cmp id)) es)) (turn_links m) ∙ is) refl
passes id m (event.Close conn) w one k is some =
    let e : Event = event.Close conn in
    let n : Machine = without_link conn.0 m in
    let P : ℕ → Type 0 = λ q. IsSome (watch_on q n) → watch_on q n ≡ Some w in
    passes_made id m e [] w one (still_by id conn.0 m n w (event_touches m e k) is (λ same. subst P same (no_watch conn.0 n (ap watch_of (found_gone conn.0 m k))) some)) refl

-- ---- lists of events

-- events that lead to a machine are a run of a watch
record Runs (id : ℕ) (ts : List Step) (history : List PlainChange) (s : Plain) (n : Machine) (sent : List ℕ) (w : PlainWatching) : Type 0 where
  between : history_after ts history ≡ n.changes
  holds : HoldsOn ts history s w.watch
  still : watch_on id n ≡ Some (record w { watch = watch_after ts history s w.watch })
  told : sent ≡ lines_of (shown_over ts history s w.watch)

-- the watch after one of the events
abbrev next_watch : Step → Machine → PlainWatching → PlainWatching
next_watch (Made cs) m w = w
next_watch Pump m w = pumped_on m w

passes_to : (id : ℕ) (m n : Machine) (sent : List ℕ) (w : PlainWatching) (t : Step) → Passes id m n sent w t → watch_on id n ≡ Some (next_watch t m w)
unfolding Passes
passes_to id m n sent w (Made cs) p = p.2
passes_to id m n sent w Pump p = p.3

lines_on : (q : Option Shown) (es : List Shown) → lines_of (cons_option q es) ≡ lines_of (cons_option q []) ++ lines_of es
unfolding lines_of
lines_on None es = refl
lines_on (Some e) es = ap (λ line. line ++ lines_of es) (sym (append-nil (line_of e)))

runs_on : (id : ℕ) (m n o : Machine) (sent more : List ℕ) (w : PlainWatching) (t : Step) (ts : List Step) → Passes id m n sent w t → Runs id ts n.changes n.store o more (next_watch t m w)
    → Runs id (t ∷ ts) m.changes m.store o (sent ++ more) w
unfolding Passes history_after watch_after shown_over HoldsOn
runs_on id m n o sent more w (Made cs) ts p r =
    let P : List PlainChange → Type 0 = λ h. Runs id ts h n.store o more w in
    let Q : Plain → Type 0 = λ s. Runs id ts (m.changes ++ cs) s o more w in
    let rest = subst Q p.1 (subst P p.0 r) in
    record { between = rest.between; holds = rest.holds; still = rest.still; told = ap (λ bytes. bytes ++ more) p.3 ∙ rest.told }
runs_on id m n o sent more w Pump ts p r =
    let P : List PlainChange → Type 0 = λ h. Runs id ts h n.store o more (pumped_on m w) in
    let Q : Plain → Type 0 = λ s. Runs id ts m.changes s o more (pumped_on m w) in
    let rest = subst Q p.1 (subst P p.0 r) in
    let shown = shown_over ts m.changes m.store (after_pump m.changes m.store w.watch) in
    record {
      between = rest.between;
      holds = (p.2, rest.holds);
      still = rest.still;
      told =
          ap (λ bytes. bytes ++ more) p.4
          ∙ ap (λ bytes. lines_of (cons_option (pumped m.changes m.store w.watch) []) ++ bytes) rest.told
          ∙ sym (lines_on (pumped m.changes m.store w.watch) shown);
    }

events_run : (first id : ℕ) (m : Machine) (es : List Event) (w : PlainWatching) → HasHistory first m → AreNumbered m → watch_on id m ≡ Some w → WatchesOn id m es
    → Runs id (run_on id m es) m.changes m.store (after m es) (sent_on id m es) w
unfolding after run_on sent_on WatchesOn history_after watch_after shown_over HoldsOn lines_of
events_run first id m [] w h k is on = record { between = refl; holds = tt; still = is; told = refl }
events_run first id m (e ∷ es) w h k is on =
    let n : Machine = (step m e).1 in
    let one : Writes m n = event_writes m e (are_named first m h) in
    let p = passes id m e w one k is on.0 in
    let t : Step = moment_of id m e in
    runs_on id m n (after n es) (sent_by id m e) (sent_on id n es) w t (run_on id n es) p
    (events_run first id n es (next_watch t m w) (writes_go_on first m n h one) (event_touches m e k).numbered (passes_to id m n (sent_by id m e) w t p) on.1)

-- ---- the machines that there are

pub events_are_a_run : EventsAreARun
events_are_a_run on table first texts before events id w is shows =
    let m : Machine = served on table first texts before in
    let r = events_run first id m events w (served_has on table first texts before) (served_numbered on table first texts before) is shows in
    record { between = r.between; holds = r.holds; still = r.still; sent = r.told }

-- what the run of a watch has shown, if nothing is due any more
still_none : (id : ℕ) (m : Machine) (events : List Event) (w v : PlainWatching) (began : PlainWatch) → IsRun id m events w → w.watch ≡ began → watch_on id (after m events) ≡ Some v
    → still_due (after m events).changes v.watch ≡ [] → still_due (after m events).changes (watch_after (run_on id m events) m.changes m.store began) ≡ []
still_none id m events w v began r is now none =
    let same : v ≡ record w { watch = watch_after (run_on id m events) m.changes m.store w.watch } = one (sym now ∙ r.still) in
    ap (still_due (after m events).changes) (sym (ap (λ (x : PlainWatching). x.watch) same ∙ ap (watch_after (run_on id m events) m.changes m.store) is)) ∙ none
  where
    one : {x y : PlainWatching} → Some x ≡ Some y → x ≡ y
    one is = cc

pub sent_is_listed : SentIsListed
sent_is_listed on table first texts before events id w v scope revision is began shows now none =
    let m : Machine = served on table first texts before in
    let n : Machine = after m events in
    let ts = run_on id m events in
    let r = events_are_a_run on table first texts before events id w is shows in
    let P : PlainWatch → Type 0 = HoldsOn ts m.changes m.store in
    let Q : PlainWatch → Type 0 = λ x. all_on_top scope (list_at scope revision n.changes) (shown_over ts m.changes m.store x) ≡ list_of scope n in (
      shown_over ts m.changes m.store w.watch,
      r.sent,
      subst Q (sym began)
          (shown_is_listed on table first texts before events ts scope revision r.between (subst P began r.holds) (still_none id m events w v (started_at scope revision) r began now none)),
    )

pub first_sent_is_listed : FirstSentIsListed
first_sent_is_listed on table first texts before events id w v scope is began shows now none =
    let m : Machine = served on table first texts before in
    let n : Machine = after m events in
    let ts = run_on id m events in
    let r = events_are_a_run on table first texts before events id w is shows in
    let P : PlainWatch → Type 0 = HoldsOn ts m.changes m.store in
    let Q : PlainWatch → Type 0 = λ x. all_on_top scope [] (shown_over ts m.changes m.store x) ≡ list_of scope n in (
      shown_over ts m.changes m.store w.watch,
      r.sent,
      subst Q (sym began)
          (first_shown_is_listed on table first texts before events ts scope r.between (subst P began r.holds) (still_none id m events w v (started_now m.store scope) r began now none)),
    )
