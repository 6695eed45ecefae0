-- Results of acts, joined.
use Rattle.std.proofs.Common.{◌≡◌, ◌<◌, ℕ, Bool, true, false, List, [], ◌∷◌, ◌++◌, length, get_or, set, refl, sym, ap, ◌∙◌, subst, append_assoc, Option, None, Some, Err, inl, inr}
use Rattle.std.specs.List.{remove}
use Rattle.std.proofs.lemmas.List.{append-nil, map-append}
use Rattle.kapi_core.proofs.Gains.{events_gain, nobody_gains}
use Rattle.kapi_core.specs.Machine.{Machine, step, answers, after}
use Rattle.kapi_core.specs.Running.{Running}
use Rattle.kapi_core.specs.Refines.{Keeps, Makes, Opens, RunsOut, Refines, TakesIn, sent_if, turned_if}
use Rattle.kapi_core.specs.declared.event.ConnId.{ConnId}
use Rattle.kapi_core.specs.declared.event.Event.{Event}
use Rattle.kapi_core.specs.declared.event.Event.TheVariants as event
use Rattle.kapi_core.specs.declared.event.Answer.{Answer}
use Rattle.kapi_core.specs.declared.event.Answer.TheVariants as answer
use Rattle.kapi_core.specs.declared.event.OpenError.{OpenError}
use Rattle.kapi_core.specs.declared.event.OpenError.TheVariants as refused
use Rattle.kapi_core.specs.declared.event.Output.{Output}
use Rattle.kapi_core.specs.declared.event.Turned.{Turned}
use Rattle.kapi_http.specs.declared.inbox.FeedError.{FeedError}
use Rattle.kapi_http.specs.declared.inbox.FeedError.TheVariants as fed
use Rattle.kapi_model.specs.declared.identity.Identity.{Identity}
use Rattle.kapi_policy.specs.declared.change.PolicyChange.{PolicyChange}
use Rattle.kapi_publishing.specs.Boards.{Board}
use Rattle.kapi_serve.specs.Account.{Made}
use Rattle.kapi_serve.specs.Acts.{Act, Exchange, Applies, Follows, IsFree, Leaves, ClientState, answers_of, ends, entries_in, entries_of, events_of, drops, made_in, made_of, opens, serves, rejects, turns}
use Rattle.kapi_serve.specs.Advances.{Advances, ServerState, Runs, Serves, step_in, steps_in}
use Rattle.kapi_serve.specs.Ports.{Adds, Report, opened}
use Rattle.kapi_serve.specs.Private.Clients.{others, seat_of, seats_of}
use Rattle.kapi_serve.specs.Private.ServerStates.{Ends, FeedsOrEnds, AdvancesAfter, AdvancesFor, Writes, moment, unasked}
use Rattle.kapi_serve.specs.Private.ClientsMatch.{Finishes}
use Rattle.kapi_serve.specs.declared.client.Client.{Client}
use Rattle.kapi_serve.specs.declared.clients.Clients.{Clients}
use Rattle.kapi_serve.specs.declared.port.PortEvent.{PortEvent}
use Rattle.kapi_serve.specs.declared.progress.Progress.{Progress}
use Rattle.kapi_publishing.specs.Steps.{step_of}
use Rattle.kapi_serve.specs.Publishes.{Publishes, unpublished}
use Rattle.kapi_serve.specs.declared.port.Entry.{Entry}
use Rattle.kapi_serve.specs.declared.port.Entry.TheVariants as entry
use Rattle.kapi_serve.proofs.Accounting.{accounts}
use Rattle.kapi_serve.proofs.Placing.{at_remove, at_set, fed_same, others_ended, stands_at}
use Rattle.kapi_serve.proofs.Policies.{policies_shown}
use Rattle.kapi_serve.proofs.Rechecked.{were_allowed}
use Rattle.kapi_serve.proofs.Seating.{deals_closed, deals_end, deals_fed, deals_served, deals_shown, deals_took, deals_unserved, deals_unshown, leaves_ended, leaves_forgotten, leaves_full, leaves_late, leaves_starved}
use Rattle.kapi_serve.proofs.Showing.{all_published, prompt_none, shows_as, shows_nothing, shows_on}

-- ---- runs

answers_more : (m : Machine) (es fs : List Event) → answers m (es ++ fs) ≡ answers m es ++ answers (after m es) fs
unfolding answers after
answers_more m [] fs = refl
answers_more m (e ∷ es) fs = ap (λ r. (step m e).0 ∷ r) (answers_more (step m e).1 es fs)

after_more : (m : Machine) (es fs : List Event) → after m (es ++ fs) ≡ after (after m es) fs
unfolding after
after_more m [] fs = refl
after_more m (e ∷ es) fs = after_more (step m e).1 es fs

events_more : (xs ys : List Made) → events_of (xs ++ ys) ≡ events_of xs ++ events_of ys
events_more xs ys = map-append (λ x. x.event) xs ys

replies_more : (xs ys : List Made) → answers_of (xs ++ ys) ≡ answers_of xs ++ answers_of ys
replies_more xs ys = map-append (λ x. x.answer) xs ys

runs_more : (a b c : Running) (xs ys : List Made) → Runs a b xs → Runs b c ys → Runs a c (xs ++ ys)
runs_more a b c xs ys r s = λ m h.
    let first = r m h in
    let second = s (after m (events_of xs)) first.1 in
    let same = sym (events_more xs ys) in (
      replies_more xs ys ∙ (λ j. first.0 j ++ second.0 j) ∙ sym (answers_more m (events_of xs) (events_of ys)) ∙ ap (λ es. answers m es) same,
      subst (λ es. Refines c (after m es)) same (subst (λ n. Refines c n) (sym (after_more m (events_of xs) (events_of ys))) second.1),
    )

runs_nothing : (a : Running) → Runs a a []
unfolding answers after
runs_nothing a = λ m h. (refl, h)

runs_kept : (a b : Running) → Keeps a b → Runs a b []
unfolding answers after
runs_kept a b keeps = λ m h. (refl, keeps m h)

runs_one : (a b : Running) (e : Event) (x : Answer) → Makes a b e x → Runs a b (record { event = e; answer = x } ∷ [])
unfolding answers after
runs_one a b e x makes = λ m h. (ap (λ y. y ∷ []) (makes m h).0, (makes m h).1)

runs_two : (a b c : Running) (e f : Event) (x y : Answer) → Makes a b e x → Makes b c f y → Runs a c (record { event = e; answer = x } ∷ record { event = f; answer = y } ∷ [])
runs_two a b c e f x y first second = runs_more a b c (record { event = e; answer = x } ∷ []) (record { event = f; answer = y } ∷ []) (runs_one a b e x first) (runs_one b c f y second)

runs_behind : (a b c : Running) (e : Event) (x : Answer) → Keeps a b → Makes b c e x → Runs a c (record { event = e; answer = x } ∷ [])
runs_behind a b c e x keeps makes = runs_more a b c [] (record { event = e; answer = x } ∷ []) (runs_kept a b keeps) (runs_one b c e x makes)

-- ---- acts

made_more : (xs ys : List Act) → made_in (xs ++ ys) ≡ made_in xs ++ made_in ys
unfolding made_in
made_more [] ys = refl
made_more (a ∷ xs) ys = ap (λ r. made_of a ++ r) (made_more xs ys) ∙ sym (append_assoc (made_of a) (made_in xs) (made_in ys))

entries_more : (xs ys : List Act) → entries_in (xs ++ ys) ≡ entries_in xs ++ entries_in ys
unfolding entries_in
entries_more [] ys = refl
entries_more (a ∷ xs) ys = ap (λ r. entries_of a ++ r) (entries_more xs ys) ∙ sym (append_assoc (entries_of a) (entries_in xs) (entries_in ys))

follows_more : (s t u : List ClientState) (xs ys : List Act) → Follows s xs t → Follows t ys u → Follows s (xs ++ ys) u
unfolding Follows
follows_more s t u [] ys f g = subst (λ x. Follows x ys u) f g
follows_more s t u (a ∷ xs) ys f g = (f.0, f.1, follows_more f.0 t u xs ys f.2 g)

-- entries were added after others
pub adds_on : (q r s : Report) (es fs : List Entry) → Adds q r es → Adds r s fs → Adds q s (es ++ fs)
adds_on q r s es fs first second y =
    let b = second y in
    let a = first b.0 in
    (a.0, b.1 ∙ ap (λ es. es ++ fs) a.1 ∙ append_assoc q.history es fs)

pub adds_nothing : (r : Report) → Adds r r []
adds_nothing r y = (y, sym (append-nil r.history))

adds_as : (q r : Report) (es fs : List Entry) → es ≡ fs → Adds q r es → Adds q r fs
adds_as q r es fs same adds = subst (λ xs. Adds q r xs) same adds

-- one act
made_one : (a : Act) → made_in (a ∷ []) ≡ made_of a
unfolding made_in
made_one a = append-nil (made_of a)

entries_one : (a : Act) → entries_in (a ∷ []) ≡ entries_of a
unfolding entries_in
entries_one a = append-nil (entries_of a)

follows_one : (s t : List ClientState) (a : Act) → Applies s a t → Follows s (a ∷ []) t
unfolding Follows
follows_one s t a does = (t, does, refl)

-- ---- steps

steps_more : (xs ys : List Answer) → steps_in (xs ++ ys) ≡ steps_in xs ++ steps_in ys
unfolding steps_in
steps_more [] ys = refl
steps_more (x ∷ xs) ys = ap (λ r. step_in x ++ r) (steps_more xs ys) ∙ sym (append_assoc (step_in x) (steps_in xs) (steps_in ys))

steps_one : (x : Answer) → steps_in (x ∷ []) ≡ step_in x
unfolding steps_in
steps_one x = append-nil (step_in x)

-- the steps of acts
abbrev steps_by : List Act → List (List PolicyChange)
steps_by acts = steps_in (answers_of (made_in acts))

steps_joined : (xs ys : List Act) → steps_by (xs ++ ys) ≡ steps_by xs ++ steps_by ys
steps_joined xs ys = ap (λ xs. steps_in (answers_of xs)) (made_more xs ys) ∙ ap steps_in (replies_more (made_in xs) (made_in ys)) ∙ steps_more (answers_of (made_in xs)) (answers_of (made_in ys))

steps_act : (act : Act) → steps_by (act ∷ []) ≡ steps_in (answers_of (made_of act))
steps_act act = ap (λ xs. steps_in (answers_of xs)) (made_one act)

steps_none : steps_by [] ≡ []
unfolding steps_in made_in
steps_none = refl

-- ---- without an act

goes_idle : (m n : ServerState) → Keeps m.core n.core → Publishes m.desk n.desk m.kept n.kept [] → n.seats ≡ m.seats → Adds m.report n.report [] → Advances m n
unfolding made_in entries_in Follows
goes_idle m n keeps shows same adds = record {
  acts = [];
  runs = runs_kept m.core n.core keeps;
  shows = shows_as m.desk n.desk m.kept n.kept [] (steps_by []) (sym steps_none) shows;
  follows = same;
  told = adds;
}

pub goes_nothing : (m : ServerState) → Advances m m
goes_nothing m = goes_idle m m (λ n h. h) (shows_nothing m.desk m.kept) refl (adds_nothing m.report)

-- nothing was done, and nothing recorded
pub goes_still : (m : ServerState) (t : List ClientState) (r : Report) → t ≡ m.seats → Adds m.report r [] → Advances m (record m { seats = t; report = r })
goes_still m t r same adds = goes_idle m (record m { seats = t; report = r }) (λ n h. h) (shows_nothing m.desk m.kept) same adds

-- the machine is another that refines the same
pub goes_kept : (m : ServerState) (b : Running) (t : List ClientState) → Keeps m.core b → t ≡ m.seats → Advances m (record m { core = b; seats = t })
goes_kept m b t keeps same = goes_idle m (record m { core = b; seats = t }) keeps (shows_nothing m.desk m.kept) same (adds_nothing m.report)

-- an event ran out of memory
pub goes_out : (m : ServerState) (b : Running) (t : List ClientState) (e : Event) → RunsOut m.core b e → t ≡ m.seats → Advances m (record m { core = b; seats = t })
goes_out m b t e out same = goes_kept m b t (λ n h. (out n h).0) same

-- steps are published without an event
pub goes_showing : (m : ServerState) (e : Board) (q : Option (List PolicyChange)) → Publishes m.desk e m.kept q [] → Advances m (record m { desk = e; kept = q })
goes_showing m e q shows = goes_idle m (record m { desk = e; kept = q }) (λ n h. h) shows refl (adds_nothing m.report)

-- ---- one moment after another

pub goes_on : (l m n : ServerState) → Advances l m → Advances m n → Advances l n
goes_on l m n g h = record {
  acts = g.acts ++ h.acts;
  runs = subst (λ xs. Runs l.core n.core xs) (sym (made_more g.acts h.acts)) (runs_more l.core m.core n.core (made_in g.acts) (made_in h.acts) g.runs h.runs);
  shows = shows_as l.desk n.desk l.kept n.kept _ _ (sym (steps_joined g.acts h.acts)) (shows_on l.desk m.desk n.desk l.kept m.kept n.kept (steps_by g.acts) (steps_by h.acts) g.shows h.shows);
  follows = follows_more l.seats m.seats n.seats g.acts h.acts g.follows h.follows;
  told = adds_as l.report n.report _ _ (sym (entries_more g.acts h.acts)) (adds_on l.report m.report n.report (entries_in g.acts) (entries_in h.acts) g.told h.told);
}

-- what was done without the ports holds whatever they report
pub goes_unasked : (a b : Running) (d e : Board) (p q : Option (List PolicyChange)) (s t : List ClientState) (r : Report) → Advances (moment a d p s unasked) (moment b e q t unasked) → Advances (moment a d p s r) (moment b e q t r)
goes_unasked a b d e p q s t r g = record {
  acts = g.acts;
  runs = g.runs;
  shows = g.shows;
  follows = g.follows;
  told = λ y. (y, sym (append-nil r.history) ∙ ap (λ es. r.history ++ es) (g.told tt).1);
}

-- the same clients by other names
goes_as : (m n : ServerState) (s t : List ClientState) → m.seats ≡ s → n.seats ≡ t → Advances (record m { seats = s }) (record n { seats = t }) → Advances m n
goes_as m n s t same too g = record {
  acts = g.acts;
  runs = g.runs;
  shows = g.shows;
  follows = subst (λ x. Follows x g.acts n.seats) (sym same) (subst (λ y. Follows s g.acts y) (sym too) g.follows);
  told = g.told;
}

-- from before an event of the ports
pub goes_after : (a b : Running) (d e : Board) (p q : Option (List PolicyChange)) (s t : List ClientState) (r z k : Report) (x : PortEvent) → Adds r z (opened (Some x)) → AdvancesAfter x (moment a d p s z) (moment b e q t k)
    → Advances (moment a d p s r) (moment b e q t k)
goes_after a b d e p q s t r z k x adds goes =
    let g = goes r.history (λ y. (adds y).1) in
    record {
      acts = g.acts;
      runs = g.runs;
      shows = g.shows;
      follows = g.follows;
      told = λ y. let more = g.told y in ((adds more.0).0, more.1);
    }

-- ---- one act

-- an act, whose step is put behind the others
goes_act : (m n : ServerState) (act : Act) → Runs m.core n.core (made_of act) → Publishes m.desk n.desk m.kept n.kept (steps_in (answers_of (made_of act))) → Applies m.seats act n.seats → Adds m.report n.report (entries_of act) → Advances m n
goes_act m n act runs shows does adds = record {
  acts = act ∷ [];
  runs = subst (λ xs. Runs m.core n.core xs) (sym (made_one act)) runs;
  shows = shows_as m.desk n.desk m.kept n.kept _ _ (sym (steps_act act)) shows;
  follows = follows_one m.seats n.seats act does;
  told = adds_as m.report n.report _ _ (sym (entries_one act)) adds;
}

-- an act whose events change no policy
goes_quiet : (m : ServerState) (b : Running) (t : List ClientState) (r : Report) (act : Act) → Runs m.core b (made_of act) → steps_in (answers_of (made_of act)) ≡ [] → Applies m.seats act t → Adds m.report r (entries_of act)
    → Advances m (record m { core = b; seats = t; report = r })
goes_quiet m b t r act runs quiet does adds = goes_act m (record m { core = b; seats = t; report = r }) act runs (shows_as m.desk m.desk m.kept m.kept _ _ (sym quiet) (shows_nothing m.desk m.kept)) does adds

-- ---- turns

-- a turn was made
pub goes_turned : (m : ServerState) (b : Running) (e : Board) (q : Option (List PolicyChange)) (o : Option Turned) (t : Turned) → Makes m.core b event.Turn (turned_if o) → o ≡ Some t → Publishes m.desk e m.kept q (step_of t.policy_changes)
    → Advances m (record m { core = b; desk = e; kept = q })
goes_turned m b e q o t makes some shows = goes_act m (record m { core = b; desk = e; kept = q }) (turns (turned_if o)) (runs_one m.core b event.Turn (turned_if o) makes)
    (shows_as m.desk e m.kept q _ _ (ap (λ x. step_in (turned_if x)) (sym some) ∙ sym (steps_one (turned_if o))) shows) refl (adds_nothing m.report)

-- no turn was made
pub goes_unturned : (m : ServerState) (b : Running) (o : Option Turned) → Makes m.core b event.Turn (turned_if o) → o ≡ None → Advances m (record m { core = b })
goes_unturned m b o makes none = goes_quiet m b m.seats m.report (turns (turned_if o)) (runs_one m.core b event.Turn (turned_if o) makes)
    (steps_one (turned_if o) ∙ ap (λ x. step_in (turned_if x)) none) refl (adds_nothing m.report)

-- ---- one client

makes_sent : (a b : Running) (ev : Event) (o : Option Output) (out : Output) → Makes a b ev (sent_if o) → o ≡ Some out → Makes a b ev (answer.Sent out)
makes_sent a b ev o out makes some = subst (λ x. Makes a b ev (sent_if x)) some makes

pub makes_nothing : (a b : Running) (ev : Event) (o : Option Output) → Makes a b ev (sent_if o) → o ≡ None → Makes a b ev answer.Nothing
makes_nothing a b ev o makes none = subst (λ x. Makes a b ev (sent_if x)) none makes

-- a step of a client, whose changes are published
goes_sent : (m : ServerState) (b : Running) (e : Board) (q : Option (List PolicyChange)) (t front back : List ClientState) (x y : ClientState) (ev : Event) (out : Output) → m.seats ≡ front ++ x ∷ back → t ≡ front ++ y ∷ back
    → Makes m.core b ev (answer.Sent out) → Publishes m.desk e m.kept q (step_of out.policy_changes) → Exchange x y [] (record { event = ev; answer = answer.Sent out } ∷ []) → Advances m (record m { core = b; desk = e; kept = q; seats = t })
goes_sent m b e q t front back x y ev out is to makes shows deals =
    goes_act m (record m { core = b; desk = e; kept = q; seats = t }) (serves x y [] (record { event = ev; answer = answer.Sent out } ∷ [])) (runs_one m.core b ev (answer.Sent out) makes)
    (shows_as m.desk e m.kept q _ _ (sym (steps_one (answer.Sent out))) shows) (front, back, is, to, deals) (adds_nothing m.report)

-- a client is answered
pub goes_served : (m : ServerState) (b : Running) (e : Board) (q : Option (List PolicyChange)) (t front back : List ClientState) (x y : ClientState) (o : Option Output) (out : Output) → m.seats ≡ front ++ x ∷ back → t ≡ front ++ y ∷ back
    → Makes m.core b (event.Serve x.conn) (sent_if o) → o ≡ Some out → Publishes m.desk e m.kept q (step_of out.policy_changes) → y.slot ≡ x.slot → y.conn ≡ x.conn → y.owed ≡ x.owed ++ out.bytes
    → Advances m (record m { core = b; desk = e; kept = q; seats = t })
goes_served m b e q t front back x y o out is to makes some shows slot conn owed =
    goes_sent m b e q t front back x y (event.Serve x.conn) out is to (makes_sent m.core b (event.Serve x.conn) o out makes some) shows (deals_served x y out slot conn owed)

-- a client is shown an event
pub goes_shown : (m : ServerState) (b : Running) (e : Board) (q : Option (List PolicyChange)) (t front back : List ClientState) (x y : ClientState) (o : Option Output) (out : Output) → m.seats ≡ front ++ x ∷ back → t ≡ front ++ y ∷ back
    → Makes m.core b (event.Pump x.conn) (sent_if o) → o ≡ Some out → Publishes m.desk e m.kept q (step_of out.policy_changes) → y.slot ≡ x.slot → y.conn ≡ x.conn → y.owed ≡ x.owed ++ out.bytes
    → Advances m (record m { core = b; desk = e; kept = q; seats = t })
goes_shown m b e q t front back x y o out is to makes some shows slot conn owed =
    goes_sent m b e q t front back x y (event.Pump x.conn) out is to (makes_sent m.core b (event.Pump x.conn) o out makes some) shows (deals_shown x y out slot conn owed)

-- one quiet event of a client
goes_for : (m : ServerState) (b : Running) (t front back : List ClientState) (x y : ClientState) (e : Event) (z : Answer) → m.seats ≡ front ++ x ∷ back → t ≡ front ++ y ∷ back → Makes m.core b e z → step_in z ≡ []
    → Exchange x y [] (record { event = e; answer = z } ∷ []) → Advances m (record m { core = b; seats = t })
goes_for m b t front back x y e z is to makes none deals =
    goes_quiet m b t m.report (serves x y [] (record { event = e; answer = z } ∷ [])) (runs_one m.core b e z makes) (steps_one z ∙ none) (front, back, is, to, deals) (adds_nothing m.report)

-- there is no request of the client
pub goes_unserved : (m : ServerState) (b : Running) (t front back : List ClientState) (x : ClientState) (o : Option Output) → m.seats ≡ front ++ x ∷ back → t ≡ front ++ x ∷ back → Makes m.core b (event.Serve x.conn) (sent_if o) → o ≡ None
    → Advances m (record m { core = b; seats = t })
goes_unserved m b t front back x o is to makes none = goes_for m b t front back x x (event.Serve x.conn) answer.Nothing is to (makes_nothing m.core b (event.Serve x.conn) o makes none) refl (deals_unserved x)

-- there is no event for the client
pub goes_unshown : (m : ServerState) (b : Running) (t front back : List ClientState) (x : ClientState) (o : Option Output) → m.seats ≡ front ++ x ∷ back → t ≡ front ++ x ∷ back → Makes m.core b (event.Pump x.conn) (sent_if o) → o ≡ None
    → Advances m (record m { core = b; seats = t })
goes_unshown m b t front back x o is to makes none = goes_for m b t front back x x (event.Pump x.conn) answer.Nothing is to (makes_nothing m.core b (event.Pump x.conn) o makes none) refl (deals_unshown x)

-- the watch of the client was moved on, if it was
pub goes_skipped : (m : ServerState) (b : Running) (front back : List ClientState) (x : ClientState) (skipped : Bool) → m.seats ≡ front ++ x ∷ back → (skipped ≡ true → Makes m.core b (event.Pump x.conn) answer.Nothing) → (skipped ≡ false → b ≡ m.core)
    → Advances m (record m { core = b })
goes_skipped m b front back x true is makes same = goes_for m b m.seats front back x x (event.Pump x.conn) answer.Nothing is is (makes refl) refl (deals_unshown x)
goes_skipped m b front back x false is makes same = goes_kept m b m.seats (λ n h. subst (λ z. Refines z n) (sym (same refl)) h) refl

-- a client whose bytes have ended is closed, and another stays
pub goes_finished : (m : ServerState) (b : Running) (t front back : List ClientState) (c d : Client) (p : Progress) → m.seats ≡ front ++ seat_of c ∷ back → t ≡ front ++ seat_of d ∷ back → Finishes m.core b c d p → Advances m (record m { core = b; seats = t })
goes_finished m b t front back c d p is to (inl q) =
    goes_for m b t front back (seat_of c) (seat_of d) (event.Close c.id) answer.Done is to q.2 refl (deals_closed (seat_of c) (seat_of d) (ap seat_of q.3))
goes_finished m b t front back c d p is to (inr q) = goes_kept m b t (λ n h. subst (λ z. Refines z n) (sym q.2) h) (to ∙ ap (λ z. front ++ seat_of z ∷ back) q.3 ∙ sym is)

-- a client accepted bytes
pub goes_took : (m : ServerState) (t : List ClientState) (r : Report) (front back : List ClientState) (x y : ClientState) (bytes : List ℕ) → m.seats ≡ front ++ x ∷ back → t ≡ front ++ y ∷ back → y.slot ≡ x.slot → y.conn ≡ x.conn → x.owed ≡ bytes ++ y.owed
    → Adds m.report r (entry.Took x.slot bytes ∷ []) → Advances m (record m { seats = t; report = r })
unfolding steps_in
goes_took m t r front back x y bytes is to slot conn owed adds =
    goes_quiet m m.core t r (serves x y (entry.Took x.slot bytes ∷ []) []) (runs_nothing m.core) refl (front, back, is, to, deals_took x y bytes slot conn owed) adds

-- ---- clients come, are read, and leave

-- a client was opened a connection, or it was rejected or dropped and its slot was ended
pub goes_opened : (m : ServerState) (b : Running) (t : List ClientState) (r : Report) (slot : ℕ) (who : Identity) (id : ConnId) → IsFree slot m.seats → t ≡ m.seats ++ record { slot = slot; conn = id; owed = [] } ∷ []
    → Makes m.core b (event.Open who) (answer.Opened id) → Adds m.report r (entry.Opened slot who ∷ []) → Advances m (record m { core = b; seats = t; report = r })
goes_opened m b t r slot who id free to makes adds = goes_quiet m b t r (opens slot who id) (runs_one m.core b (event.Open who) (answer.Opened id) makes) (steps_one (answer.Opened id)) (free, to) adds

pub goes_lost : (m : ServerState) (b : Running) (t : List ClientState) (q r : Report) (slot : ℕ) (who : Identity) → IsFree slot m.seats → t ≡ m.seats → Keeps m.core b → Adds m.report q (entry.Opened slot who ∷ [])
    → Adds q r (entry.Ended slot ∷ []) → Advances m (record m { core = b; seats = t; report = r })
unfolding steps_in
goes_lost m b t q r slot who free to keeps first second = goes_quiet m b t r (drops slot who) (runs_kept m.core b keeps) refl (free, to) (adds_on m.report q r (entry.Opened slot who ∷ []) (entry.Ended slot ∷ []) first second)

pub goes_unopened : (m : ServerState) (b : Running) (t : List ClientState) (q r : Report) (slot : ℕ) (who : Identity) (o : OpenError) → IsFree slot m.seats → t ≡ m.seats → Opens m.core b who (Err o)
    → Adds m.report q (entry.Opened slot who ∷ []) → Adds q r (entry.Ended slot ∷ []) → Advances m (record m { core = b; seats = t; report = r })
goes_unopened m b t q r slot who refused.TooMany free to made first second =
    goes_quiet m b t r (rejects slot who) (runs_one m.core b (event.Open who) answer.TooMany made) (steps_one answer.TooMany) (free, to) (adds_on m.report q r (entry.Opened slot who ∷ []) (entry.Ended slot ∷ []) first second)
goes_unopened m b t q r slot who refused.Memory free to out first second = goes_lost m b t q r slot who free to (λ n y. (out n y).0) first second

-- a piece of a client was fed
goes_fed : (m : ServerState) (b : Running) (t : List ClientState) (r : Report) (front back : List ClientState) (x : ClientState) (piece : List ℕ) → m.seats ≡ front ++ x ∷ back → t ≡ front ++ x ∷ back → Makes m.core b (event.Feed x.conn piece) answer.Done
    → Adds m.report r (entry.Gave x.slot piece ∷ []) → Advances m (record m { core = b; seats = t; report = r })
goes_fed m b t r front back x piece is to makes adds =
    let made = record { event = event.Feed x.conn piece; answer = answer.Done } ∷ [] in
    goes_quiet m b t r (serves x x (entry.Gave x.slot piece ∷ []) made) (runs_one m.core b (event.Feed x.conn piece) answer.Done makes) (steps_one answer.Done) (front, back, is, to, deals_fed x piece) adds

-- the end of a client's bytes was read
goes_end : (m : ServerState) (t : List ClientState) (r : Report) (front back : List ClientState) (x : ClientState) → m.seats ≡ front ++ x ∷ back → t ≡ front ++ x ∷ back → Adds m.report r (entry.Gave x.slot [] ∷ []) → Advances m (record m { seats = t; report = r })
unfolding steps_in
goes_end m t r front back x is to adds = goes_quiet m m.core t r (serves x x (entry.Gave x.slot [] ∷ []) []) (runs_nothing m.core) refl (front, back, is, to, deals_end x) adds

-- a client's connection was closed, and its slot ended or to be opened again
goes_forgotten : (m : ServerState) (b : Running) (t front back : List ClientState) (x : ClientState) → m.seats ≡ front ++ x ∷ back → t ≡ front ++ back → Makes m.core b (event.Close x.conn) answer.Done → Advances m (record m { core = b; seats = t })
goes_forgotten m b t front back x is to makes =
    let made = record { event = event.Close x.conn; answer = answer.Done } ∷ [] in
    goes_quiet m b t m.report (ends x [] made) (runs_one m.core b (event.Close x.conn) answer.Done makes) (steps_one answer.Done) (front, back, is, to, leaves_forgotten x) (adds_nothing m.report)

goes_ended : (m : ServerState) (b : Running) (t : List ClientState) (r : Report) (front back : List ClientState) (x : ClientState) → m.seats ≡ front ++ x ∷ back → t ≡ front ++ back → Makes m.core b (event.Close x.conn) answer.Done
    → Adds m.report r (entry.Ended x.slot ∷ []) → Advances m (record m { core = b; seats = t; report = r })
goes_ended m b t r front back x is to makes adds =
    let made = record { event = event.Close x.conn; answer = answer.Done } ∷ [] in
    goes_quiet m b t r (ends x (entry.Ended x.slot ∷ []) made) (runs_one m.core b (event.Close x.conn) answer.Done makes) (steps_one answer.Done) (front, back, is, to, leaves_ended x) adds

-- a piece of a client was not taken in
goes_out_with : (m : ServerState) (c : Running) (t : List ClientState) (q r : Report) (front back : List ClientState) (x : ClientState) (piece : List ℕ) (made : List Made) → m.seats ≡ front ++ x ∷ back → t ≡ front ++ back → Runs m.core c made
    → steps_in (answers_of made) ≡ [] → Leaves x (entry.Gave x.slot piece ∷ entry.Ended x.slot ∷ []) made → Adds m.report q (entry.Gave x.slot piece ∷ []) → Adds q r (entry.Ended x.slot ∷ [])
    → Advances m (record m { core = c; seats = t; report = r })
goes_out_with m c t q r front back x piece made is to runs quiet leaves first second =
    goes_quiet m c t r (ends x (entry.Gave x.slot piece ∷ entry.Ended x.slot ∷ []) made) runs quiet (front, back, is, to, leaves) (adds_on m.report q r (entry.Gave x.slot piece ∷ []) (entry.Ended x.slot ∷ []) first second)

goes_refused : (m : ServerState) (b c : Running) (t : List ClientState) (q r : Report) (front back : List ClientState) (x : ClientState) (piece : List ℕ) (e : FeedError) → m.seats ≡ front ++ x ∷ back → t ≡ front ++ back → TakesIn m.core b x.conn piece (Err e)
    → Makes b c (event.Close x.conn) answer.Done → Adds m.report q (entry.Gave x.slot piece ∷ []) → Adds q r (entry.Ended x.slot ∷ []) → Advances m (record m { core = c; seats = t; report = r })
unfolding steps_in
goes_refused m b c t q r front back x piece fed.Full is to takes closes first second =
    goes_out_with m c t q r front back x piece _ is to (runs_two m.core b c (event.Feed x.conn piece) (event.Close x.conn) answer.Full answer.Done takes closes) refl (leaves_full x piece) first second
goes_refused m b c t q r front back x piece fed.Ended is to takes closes first second =
    goes_out_with m c t q r front back x piece _ is to (runs_two m.core b c (event.Feed x.conn piece) (event.Close x.conn) answer.Ended answer.Done takes closes) refl (leaves_late x piece) first second
goes_refused m b c t q r front back x piece fed.Memory is to out closes first second =
    goes_out_with m c t q r front back x piece _ is to (runs_behind m.core b c (event.Close x.conn) answer.Done (λ n y. (out n y).0) closes) refl (leaves_starved x piece) first second

-- ---- by the place of a client

-- the client at a place is forgotten
pub forgets_at : (m : ServerState) (b : Running) (t : List ClientState) (cs : List Client) (i : ℕ) (e : Client) → i < length cs → m.seats ≡ seats_of cs → t ≡ seats_of (remove cs i) → Makes m.core b (event.Close (get_or cs i e).id) answer.Done
    → Advances m (record m { core = b; seats = t })
forgets_at m b t cs i e below is to makes =
    let k = stands_at cs i e below in
    goes_forgotten m b t k.0 k.2 k.1 (is ∙ k.3.0) (to ∙ at_remove cs i k.0 k.1 k.2 k.3) (subst (λ z. Makes m.core b (event.Close z.conn) answer.Done) (sym k.4) makes)

-- the client at a place left
pub ends_at : (m : ServerState) (b : Running) (t : List ClientState) (r : Report) (i : ℕ) (cs ds : Clients) (e : Client) → Ends i m.core b cs ds m.report r → i < length cs.list.items → m.seats ≡ seats_of cs.list.items → t ≡ seats_of ds.list.items
    → Advances m (record m { core = b; seats = t; report = r })
ends_at m b t r i cs ds e left below is to =
    let k = stands_at cs.list.items i e below in
    goes_ended m b t r k.0 k.2 k.1 (is ∙ k.3.0) (to ∙ ap seats_of left.list ∙ at_remove cs.list.items i k.0 k.1 k.2 k.3)
    (subst (λ z. Makes m.core b (event.Close z.conn) answer.Done) (sym k.4) (left.closes e)) (subst (λ z. Adds m.report r (entry.Ended z.slot ∷ [])) (sym k.4) (left.adds e))

-- something was done for the client at a place, and the ports were not asked
pub goes_tended : (a b : Running) (d e : Board) (p q : Option (List PolicyChange)) (cs : List Client) (i : ℕ) (c f : Client) → i < length cs → c ≡ get_or cs i c
    → AdvancesFor (λ s. moment a d p s unasked) (λ s. moment b e q s unasked) c f → Advances (moment a d p (seats_of cs) unasked) (moment b e q (seats_of (set cs i f)) unasked)
goes_tended a b d e p q cs i c f below at goes =
    let k = stands_at cs i c below in
    goes_as (moment a d p (seats_of cs) unasked) (moment b e q (seats_of (set cs i f)) unasked) (k.0 ++ seat_of c ∷ k.2) (k.0 ++ seat_of f ∷ k.2) (k.3.0 ∙ ap (λ z. k.0 ++ z ∷ k.2) (k.4 ∙ ap seat_of (sym at)))
    (at_set cs i k.0 k.1 k.2 f k.3) (goes k.0 k.2)

-- the end of the bytes of the client at a place was read
pub reads_end_at : (m : ServerState) (t : List ClientState) (r : Report) (i : ℕ) (cs : List Client) (e : Client) → i < length cs → m.seats ≡ seats_of cs → t ≡ seats_of cs → Adds m.report r (entry.Gave (get_or cs i e).slot [] ∷ [])
    → Advances m (record m { seats = t; report = r })
reads_end_at m t r i cs e below is to adds =
    let k = stands_at cs i e below in
    goes_end m t r k.0 k.2 k.1 (is ∙ k.3.0) (to ∙ k.3.0) (subst (λ z. Adds m.report r (entry.Gave z.slot [] ∷ [])) (sym k.4) adds)

-- a piece of the client at a place was read, and fed or refused
pub feeds_at : (m : ServerState) (b : Running) (t : List ClientState) (q r : Report) (i : ℕ) (piece : List ℕ) (cs ds : Clients) (e : Client) → FeedsOrEnds i piece m.core b cs ds q r → i < length cs.list.items → m.seats ≡ seats_of cs.list.items
    → t ≡ seats_of ds.list.items → Adds m.report q (entry.Gave (get_or cs.list.items i e).slot piece ∷ []) → Advances m (record m { core = b; seats = t; report = r })
feeds_at m b t q r i piece cs ds e (inl took) below is to adds =
    let k = stands_at cs.list.items i e below in
    goes_fed m b t r k.0 k.2 k.1 piece (is ∙ k.3.0) (to ∙ fed_same cs.list.items ds.list.items i e took.list ∙ k.3.0) (subst (λ z. Makes m.core b (event.Feed z.conn piece) answer.Done) (sym k.4) (took.feeds e))
    (adds_on m.report q r (entry.Gave k.1.slot piece ∷ []) [] (subst (λ z. Adds m.report q (entry.Gave z.slot piece ∷ [])) (sym k.4) adds) took.adds)
feeds_at m b t q r i piece cs ds e (inr out) below is to adds =
    let k = stands_at cs.list.items i e below in
    goes_refused m out.between b t q r k.0 k.2 k.1 piece out.refused (is ∙ k.3.0) (to ∙ ap seats_of out.ends.list ∙ at_remove cs.list.items i k.0 k.1 k.2 k.3)
    (subst (λ z. TakesIn m.core out.between z.conn piece (Err out.refused)) (sym k.4) (out.takes e)) (subst (λ z. Makes out.between b (event.Close z.conn) answer.Done) (sym k.4) (out.ends.closes e))
    (subst (λ z. Adds m.report q (entry.Gave z.slot piece ∷ [])) (sym k.4) adds) (subst (λ z. Adds q r (entry.Ended z.slot ∷ [])) (sym k.4) (out.ends.adds e))

-- the others are the same after a piece of the client at a place
pub others_fed : (slot i : ℕ) (piece : List ℕ) (a b : Running) (cs ds : Clients) (q r : Report) (e : Client) → FeedsOrEnds i piece a b cs ds q r → i < length cs.list.items → (get_or cs.list.items i e).slot ≡ slot
    → others slot (seats_of ds.list.items) ≡ others slot (seats_of cs.list.items)
others_fed slot i piece a b cs ds q r e (inl took) below on = ap (λ xs. others slot xs) (fed_same cs.list.items ds.list.items i e took.list)
others_fed slot i piece a b cs ds q r e (inr out) below on = others_ended slot i cs.list.items ds.list.items e below on out.ends.list

-- the client at a place accepted bytes
pub goes_written : (m : ServerState) (t : List ClientState) (r : Report) (cs : List Client) (i : ℕ) (d f : Client) → i < length cs → d ≡ get_or cs i d → m.seats ≡ seats_of cs → t ≡ seats_of (set cs i f) → Writes d f m.report r
    → Advances m (record m { seats = t; report = r })
goes_written m t r cs i d f below at is to writes =
    let k = stands_at cs i d below in
    goes_as m (record m { seats = t; report = r }) (k.0 ++ seat_of d ∷ k.2) (k.0 ++ seat_of f ∷ k.2) (is ∙ k.3.0 ∙ ap (λ z. k.0 ++ z ∷ k.2) (k.4 ∙ ap seat_of (sym at))) (to ∙ at_set cs i k.0 k.1 k.2 f k.3)
    (writes m.core m.desk m.kept k.0 k.2)

-- the client at a place accepted bytes, and was served and shown events
pub goes_visited : (m : ServerState) (b : Running) (e : Board) (q : Option (List PolicyChange)) (t : List ClientState) (r : Report) (cs : List Client) (i : ℕ) (d f g : Client) → i < length cs → d ≡ get_or cs i d → m.seats ≡ seats_of cs
    → t ≡ seats_of (set cs i g) → Writes d f m.report r → AdvancesFor (λ s. moment m.core m.desk m.kept s unasked) (λ s. moment b e q s unasked) f g → Advances m (record m { core = b; desk = e; kept = q; seats = t; report = r })
goes_visited m b e q t r cs i d f g below at is to writes goes =
    let k = stands_at cs i d below in
    goes_as m (record m { core = b; desk = e; kept = q; seats = t; report = r }) (k.0 ++ seat_of d ∷ k.2) (k.0 ++ seat_of g ∷ k.2) (is ∙ k.3.0 ∙ ap (λ z. k.0 ++ z ∷ k.2) (k.4 ∙ ap seat_of (sym at)))
    (to ∙ at_set cs i k.0 k.1 k.2 g k.3)
    (goes_on _ (moment m.core m.desk m.kept (k.0 ++ seat_of f ∷ k.2) r) _ (writes m.core m.desk m.kept k.0 k.2) (goes_unasked m.core b m.desk e m.kept q _ _ r (goes k.0 k.2)))

-- ---- the whole

-- where nothing was unpublished before, the published steps are all but at most the last; a server that began with no
-- client accounts for all bytes
pub goes_serves : (a b : Running) (d e : Board) (q : Option (List PolicyChange)) (t : List ClientState) (r z : Report) → d.waiting ≡ [] → Advances (moment a d None [] r) (moment b e q t z) → Serves a b d e r z
goes_serves a b d e q t r z none s = record {
  made = made_in s.acts;
  runs = s.runs;
  opening = s.shows.opening;
  left = unpublished e q;
  published = published;
  prompt = s.shows.prompt (prompt_none d none None refl);
  policies = policies_shown a d e (events_of (made_in s.acts)) (answers_of (made_in s.acts)) (unpublished e q) s.shows.opening (λ m shown. (s.runs m shown.0).0) published;
  entries = entries_in s.acts;
  told = λ y. (s.told y).1;
  account = λ m y. accounts m s.acts t s.follows (s.runs m y).0;
  gains = λ m refines. nobody_gains a b m (events_of (made_in s.acts)) refines (s.runs m refines).1;
  always = λ m refines. events_gain a m (events_of (made_in s.acts)) refines;
  rechecked = λ m refines on. were_allowed m (made_in s.acts) (s.runs m refines).0 on;
}
  where
    published : e.list ++ unpublished e q ≡ d.list ++ steps_by s.acts
    published = s.shows.all ∙ ap (λ xs. xs ++ steps_by s.acts) (all_published d none None refl)
