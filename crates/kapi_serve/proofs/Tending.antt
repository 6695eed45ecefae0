-- What is kept of clients suits their connections over all that a server does.
use Rattle.std.proofs.Common.{◌≡◌, ℕ, ◌+◌, ◌<◌, ◌≤◌, suc, Bool, true, false, if◌then◌else◌, List, [], ◌∷◌, ◌++◌, length, get_or, set, Option, Some, None, Err, inl, inr, refl, sym, ap, ◌∙◌, subst, arith}
use Rattle.std.specs.Global.{Vec}
use Rattle.std.specs.Prelude.{◌⊎◌, ◌-◌, IfSome, is_some, option_map}
use Rattle.std.specs.List.{AllByRecursion, HoldsAt, remove}
use Rattle.std.specs.Map.{lookup}
use Rattle.std.specs.BTreeMap.{is_at}
use Rattle.std.specs.Ordering.{nat_cmp}
use Rattle.std.proofs.lemmas.Bool.{cases_eq, cases_lt, true≢false}
use Rattle.std.proofs.lemmas.Grind.{get_or-set_at}
use Rattle.std.proofs.lemmas.List.{drop_all, get_or_default, get_or-set_other, get_or-set_same}
use Rattle.kapi_core.proofs.Effects.{number_of}
use Rattle.kapi_answer.specs.Watch.{PlainWatching}
use Rattle.kapi_watch.specs.Watches.{later}
use Rattle.kapi_core.specs.Fingerprints.{fingerprint_of_watch, fingerprint_on, fingerprint_some, is_among, is_concerned, watch_on}
use Rattle.kapi_core.specs.Machine.{Link, Machine, link_at, step}
use Rattle.kapi_core.specs.Refines.{Makes, Opens, Refines, RunsOut, TakesIn, sent_if, turned_if}
use Rattle.kapi_core.specs.Running.{Running}
use Rattle.kapi_core.specs.declared.event.Answer.TheVariants as answer
use Rattle.kapi_core.specs.declared.event.ConnId.{ConnId}
use Rattle.kapi_core.specs.declared.event.Event.{Event}
use Rattle.kapi_core.specs.declared.event.Event.TheVariants as event
use Rattle.kapi_core.specs.declared.event.OpenError.{OpenError}
use Rattle.kapi_core.specs.declared.event.OpenError.TheVariants as refused
use Rattle.kapi_core.specs.declared.event.Output.{Output}
use Rattle.kapi_core.specs.declared.event.Turned.{Turned}
use Rattle.kapi_http.specs.declared.inbox.FeedError.{FeedError}
use Rattle.kapi_http.specs.declared.inbox.FeedError.TheVariants as fed
use Rattle.kapi_model.specs.declared.identity.Identity.{Identity}
use Rattle.kapi_serve.specs.declared.clients.Awake.{Awake}
use Rattle.kapi_serve.specs.declared.client.Client.{Client}
use Rattle.kapi_serve.specs.declared.clients.Clients.{Clients}
use Rattle.kapi_serve.specs.declared.client.Phase.{Phase}
use Rattle.kapi_serve.specs.declared.client.Phase.TheVariants as phase
use Rattle.kapi_serve.specs.declared.pending.Pending.{Pending}
use Rattle.kapi_serve.specs.declared.progress.Progress.{Progress}
use Rattle.kapi_serve.specs.declared.progress.Progress.TheVariants as progress
use Rattle.kapi_serve.specs.Ports.{Report}
use Rattle.kapi_serve.specs.Private.ServerStates.{Ends}
use Rattle.kapi_serve.specs.Private.Pieces.{IsCounted, IsSent, joined, owed}
use Rattle.kapi_serve.specs.Private.Progresses.{both}
use Rattle.kapi_serve.specs.Private.ClientsMatch.{AllMatch, AreCalled, AreRoused, Finishes, GoesOn, HasNoRequest, IsNew, IsNumbered, IsQuiet, IsServed, IsWithin, Keeps, PassesBy, RestBefore, Rise, Stays, MatchesConnection, Tends, Waits, is_called}
use Rattle.kapi_serve.specs.Rests.{AreAtRest, Rests}
use Rattle.kapi_serve.proofs.Connections.{answered_nothing, answered_same, closed_gone, fed_fingerprint, goes_both, goes_event, goes_none, gone_request, opened_fingerprint, opened_request, pumped_fingerprint, pumped_request, request_answered, served_gone, shown_gone, stays_both, stays_none, turn_stays, unfed_stays, unserved_stays}
use Rattle.kapi_serve.proofs.Numbers.{opened_next}
use Rattle.kapi_serve.proofs.Standing.{asleep_came, asleep_left, asleep_more, asleep_set, each_at, each_by_place, each_left, each_more, each_set, each_to, rise_left, rise_less, rise_more, rise_set}

-- ---- progress

pub both_still : (p q : Progress) → both p q ≡ progress.Still → (p ≡ progress.Still) × (q ≡ progress.Still)
both_still progress.Made q is = absurd (cc)
both_still progress.Still q is = (refl, is)
both_still progress.Starved progress.Made is = absurd (cc)
both_still progress.Starved progress.Still is = absurd (cc)
both_still progress.Starved progress.Starved is = absurd (cc)

pub made_not_still : progress.Made ≡ progress.Still → ⊥
made_not_still e = absurd (cc)

pub starved_not_still : progress.Starved ≡ progress.Still → ⊥
starved_not_still e = absurd (cc)

-- ---- phases

pub open_not_ending : phase.Open ≡ phase.Ending → ⊥
open_not_ending e = absurd (cc)

pub open_not_closed : phase.Open ≡ phase.Closed → ⊥
open_not_closed e = absurd (cc)

pub closed_not_ending : phase.Closed ≡ phase.Ending → ⊥
closed_not_ending e = absurd (cc)

-- ---- one client

pub waits_nothing : (c : Client) → Waits c c
waits_nothing c = record { seat = refl; phase = refl; blocked = refl; count = refl }

pub waits_on : (c d e : Client) → Waits c d → Waits d e → Waits c e
waits_on c d e one other = record {
  seat = other.seat ∙ one.seat;
  phase = other.phase ∙ one.phase;
  blocked = other.blocked ∙ one.blocked;
  count = other.count ∙ one.count;
}

pub keeps_nothing : (c : Client) → Keeps c c
keeps_nothing c = record { id = refl; phase = refl; fed = refl; watching = refl; counted = λ h. h }

pub keeps_on : (c d e : Client) → Keeps c d → Keeps d e → Keeps c e
keeps_on c d e one other = record {
  id = other.id ∙ one.id;
  phase = other.phase ∙ one.phase;
  fed = other.fed ∙ one.fed;
  watching = other.watching ∙ one.watching;
  counted = λ h. other.counted (one.counted h);
}

-- a client of which the pending bytes are kept otherwise
pub counted_same : (p q : Pending) → owed q ≡ owed p → q.count ≡ p.count → IsCounted p → IsCounted q
counted_same p q same count few = let long : length (owed q) ≡ length (owed p) = ap length same in omega (arith, long, count, few)

pub keeps_pending : (c : Client) (p : Pending) → (IsCounted c.pending → IsCounted p) → Keeps c (record c { pending = p })
keeps_pending c p counted = record { id = refl; phase = refl; fed = refl; watching = refl; counted = counted }

pub keeps_blocked : (c : Client) (b : Bool) → Keeps c (record c { blocked = b })
keeps_blocked c b = record { id = refl; phase = refl; fed = refl; watching = refl; counted = λ h. h }

pub keeps_shown : (c : Client) (b : Bool) → Keeps c (record c { shown = b })
keeps_shown c b = record { id = refl; phase = refl; fed = refl; watching = refl; counted = λ h. h }

pub keeps_held : (c : Client) (n : ℕ) → Keeps c (record c { held = true; refused = n })
keeps_held c n = record { id = refl; phase = refl; fed = refl; watching = refl; counted = λ h. h }

pub waits_held : (c : Client) (n : ℕ) → Waits c (record c { held = true; refused = n })
waits_held c n = record { seat = refl; phase = refl; blocked = refl; count = refl }

pub waits_shown : (c : Client) (b : Bool) → Waits c (record c { shown = b })
waits_shown c b = record { seat = refl; phase = refl; blocked = refl; count = refl }

pub waits_pending : (c : Client) (p : Pending) → owed p ≡ owed c.pending → p.count ≡ c.pending.count → Waits c (record c { pending = p })
waits_pending c p same count = record { seat = ap (λ o. record { slot = c.slot; conn = c.id; owed = o }) same; phase = refl; blocked = refl; count = count }

pub suits_same : (m n : Machine) (c : Client) → link_at c.id.0 n ≡ link_at c.id.0 m → m.next_id ≤ n.next_id → MatchesConnection m c → MatchesConnection n c
suits_same m n c same next s = record {
  unfed = λ e. subst (λ o. HasNoRequest c.id.0 o) (sym same) (s.unfed e);
  closed = λ e. same ∙ s.closed e;
  ending = s.ending;
  counted = s.counted;
  below = let less : c.id.0 < m.next_id = s.below in omega (arith, less, next);
  watching = s.watching ∙ sym (ap fingerprint_on same);
}

pub suits_kept : (m : Machine) (c d : Client) → Keeps c d → MatchesConnection m c → MatchesConnection m d
suits_kept m c d k s = record {
  unfed = λ e. subst (λ i. HasNoRequest i.0 (link_at i.0 m)) (sym k.id) (s.unfed (sym k.fed ∙ e));
  closed = λ e. subst (λ i. link_at i.0 m ≡ None) (sym k.id) (s.closed (sym k.phase ∙ e));
  ending = λ e. k.fed ∙ s.ending (sym k.phase ∙ e);
  counted = k.counted s.counted;
  below = subst (λ i. i.0 < m.next_id) (sym k.id) s.below;
  watching = subst (λ i. d.watching ≡ fingerprint_on (link_at i.0 m)) (sym k.id) (k.watching ∙ s.watching);
}

-- the connection of a client went on, and bytes came since a request was looked for
suits_fed : (m n : Machine) (c d : Client) → GoesOn c.id.0 m n → MatchesConnection m c → d.id ≡ c.id → d.fed ≡ true → (d.phase ≡ phase.Closed → link_at c.id.0 n ≡ None) → IsCounted d.pending
    → d.watching ≡ fingerprint_on (link_at c.id.0 n) → MatchesConnection n d
suits_fed m n c d g s same fed closed counted told = record {
  unfed = λ e. absurd (true≢false (sym fed ∙ e));
  closed = λ e. subst (λ i. link_at i.0 n ≡ None) (sym same) (closed e);
  ending = λ e. fed;
  counted = counted;
  below = subst (λ i. i.0 < n.next_id) (sym same) (let less : c.id.0 < m.next_id = s.below in omega (arith, less, g.next));
  watching = subst (λ i. d.watching ≡ fingerprint_on (link_at i.0 n)) (sym same) told;
}

-- nothing was done
pub tends_nothing : (a : Running) (c d : Client) → Keeps c d → Tends a a c d
tends_nothing a c d k = λ m r n s. (m, r, goes_none c.id.0 m n, k.id, suits_kept m c d k s)

-- an allocation failed
pub tends_out : (a b : Running) (c d : Client) (e : Event) → RunsOut a b e → Keeps c d → Tends a b c d
tends_out a b c d e out k = λ m r n s. (m, (out m r).0, goes_none c.id.0 m n, k.id, suits_kept m c d k s)

-- a choice of phases is the closed one
closes_if : (b : Bool) (p q : Phase) → p ≡ (if b then phase.Closed else q) → (q ≡ phase.Closed → ⊥) → p ≡ phase.Closed → b ≡ true
closes_if true p q is going closed = refl
closes_if false p q is going closed = absurd (going (sym is ∙ closed))

-- something is sent
tends_sent : (a b : Running) (c d : Client) (e : Event) (out : Output) → Makes a b e (answer.Sent out) → ((m : Machine) → number_of m e ≡ c.id.0)
    → ((m : Machine) → answer.Sent out ≡ (step m e).0 → out.close ≡ true → IsNumbered m → link_at c.id.0 (step m e).1 ≡ None)
    → d.id ≡ c.id → d.fed ≡ true → d.phase ≡ (if out.close then phase.Closed else c.phase) → (c.phase ≡ phase.Closed → ⊥) → (IsCounted c.pending → IsCounted d.pending)
    → ((n : Machine) → Refines b n → d.watching ≡ fingerprint_on (link_at c.id.0 n)) → Tends a b c d
tends_sent a b c d e out makes number gone same fed becomes going counted told = λ m r n s.
    let g = goes_event m e c.id.0 (number m) n in
    ((step m e).1, (makes m r).1, g, same, suits_fed m (step m e).1 c d g s same fed (λ closed. gone m (makes m r).0 (closes_if out.close d.phase c.phase becomes going closed) n) (counted s.counted) (told (step m e).1 (makes m r).1))

made_sent : (a b : Running) (e : Event) (o : Option Output) (out : Output) → Makes a b e (sent_if o) → o ≡ Some out → Makes a b e (answer.Sent out)
made_sent a b e o out makes some = subst (λ x. Makes a b e (sent_if x)) some makes

made_nothing : (a b : Running) (e : Event) (o : Option Output) → Makes a b e (sent_if o) → o ≡ None → Makes a b e answer.Nothing
made_nothing a b e o makes none = subst (λ x. Makes a b e (sent_if x)) none makes

-- a client is answered
pub tends_served : (a b : Running) (c f d : Client) (o : Option Output) (out : Output) → Keeps c f → Makes a b (event.Serve f.id) (sent_if o) → o ≡ Some out → c.fed ≡ true → (f.phase ≡ phase.Closed → ⊥)
    → d.id ≡ f.id → d.fed ≡ f.fed → d.phase ≡ (if out.close then phase.Closed else f.phase) → (IsCounted f.pending → IsCounted d.pending)
    → ((n : Machine) → Refines b n → d.watching ≡ fingerprint_on (link_at f.id.0 n)) → Tends a b c d
tends_served a b c f d o out k makes some fed going same still becomes counted told = λ m r n s.
    let t = tends_sent a b f d (event.Serve f.id) out (made_sent a b (event.Serve f.id) o out makes some) (λ m. refl) (λ m h close n. served_gone m f.id out h close n) same (still ∙ k.fed ∙ fed) becomes going counted told m r n (suits_kept m c f k s) in
    (t.0, t.1, subst (λ i. GoesOn i.0 m t.0) k.id t.2, t.3 ∙ k.id, t.4)

-- a client is shown an event
pub tends_shown : (a b : Running) (c f d : Client) (o : Option Output) (out : Output) → Keeps c f → Makes a b (event.Pump f.id) (sent_if o) → o ≡ Some out → (f.phase ≡ phase.Closed → ⊥)
    → d.id ≡ f.id → d.fed ≡ true → d.phase ≡ (if out.close then phase.Closed else f.phase) → (IsCounted f.pending → IsCounted d.pending)
    → ((n : Machine) → Refines b n → d.watching ≡ fingerprint_on (link_at f.id.0 n)) → Tends a b c d
tends_shown a b c f d o out k makes some going same fed becomes counted told = λ m r n s.
    let t = tends_sent a b f d (event.Pump f.id) out (made_sent a b (event.Pump f.id) o out makes some) (λ m. refl) (λ m h close n. shown_gone m f.id out h close n) same fed becomes going counted told m r n (suits_kept m c f k s) in
    (t.0, t.1, subst (λ i. GoesOn i.0 m t.0) k.id t.2, t.3 ∙ k.id, t.4)

-- there is no event for a client
pub tends_unshown : (a b : Running) (c f : Client) (o : Option Output) → Keeps c f → Makes a b (event.Pump f.id) (sent_if o) → o ≡ None → (f.phase ≡ phase.Closed → ⊥) → Tends a b c f
tends_unshown a b c f o k makes none going = λ m r n s.
    let made = made_nothing a b (event.Pump f.id) o makes none in
    let own = suits_kept m c f k s in
    let g = goes_event m (event.Pump f.id) f.id.0 refl n in
    let next : Machine = (step m (event.Pump f.id)).1 in (
      next,
      (made m r).1,
      subst (λ i. GoesOn i.0 m next) k.id g,
      k.id,
      record {
        unfed = λ e. pumped_request m f.id (made m r).0 (own.unfed e);
        closed = λ e. absurd (going e);
        ending = own.ending;
        counted = own.counted;
        below = let less : f.id.0 < m.next_id = own.below in omega (arith, less, g.next);
        watching = own.watching ∙ pumped_fingerprint m f.id (made m r).0;
      },
    )

-- there is no request of a client, and it may be closed
pub tends_unserved : (a b x : Running) (c f d : Client) (o : Option Output) (p : Progress) → Keeps c f → Makes a b (event.Serve f.id) (sent_if o) → o ≡ None → (f.phase ≡ phase.Closed → ⊥)
    → Finishes b x (record f { fed = false }) d p → Tends a x c d
tends_unserved a b x c f d o p k makes none going (inl q) = λ m r n s.
    let closes = q.2 in
    let is = q.3 in
    let served = made_nothing a b (event.Serve f.id) o makes none in
    let own = suits_kept m c f k s in
    let stays = unserved_stays m f.id (served m r).0 in
    let there : Refines b m = subst (λ z. Refines b z) stays (served m r).1 in
    let next : Machine = (step m (event.Close f.id)).1 in
    let g = goes_event m (event.Close f.id) f.id.0 refl n in
    let gone = closed_gone m f.id n in
    let less : f.id.0 < m.next_id = own.below in
    let under : f.id.0 < next.next_id = omega (arith, less, g.next) in (
      next,
      (closes m there).1,
      subst (λ i. GoesOn i.0 m next) k.id g,
      ap (λ z. z.id) is ∙ k.id,
      subst (λ z. MatchesConnection next z) (sym is) (record {
        unfed = λ e. gone_request f.id.0 (link_at f.id.0 next) gone;
        closed = λ e. gone;
        ending = λ e. absurd (closed_not_ending e);
        counted = own.counted;
        below = under;
        watching = sym (ap fingerprint_on gone);
      }),
    )
tends_unserved a b x c f d o p k makes none going (inr q) = λ m r n s.
    let is = q.3 in
    let served = made_nothing a b (event.Serve f.id) o makes none in
    let own = suits_kept m c f k s in
    let stays = unserved_stays m f.id (served m r).0 in
    let there : Refines b m = subst (λ z. Refines b z) stays (served m r).1 in (
      m,
      subst (λ z. Refines z m) (sym q.2) there,
      goes_none c.id.0 m n,
      ap (λ z. z.id) is ∙ k.id,
      subst (λ z. MatchesConnection m z) (sym is) (record {
        unfed = λ e. answered_nothing m f.id (served m r).0;
        closed = λ e. absurd (going e);
        ending = λ e. absurd (q.0 e);
        counted = own.counted;
        below = own.below;
        watching = own.watching;
      }),
    )

-- a client whose bytes were looked at waits, if it was not closed
pub finished_still : (b x : Running) (c f d : Client) (p : Progress) → Waits c f → Finishes b x (record f { fed = false }) d p → p ≡ progress.Still → Waits c d × IsServed d
finished_still b x c f d p w (inl q) still = let made : p ≡ progress.Made = q.1 in absurd (cc)
finished_still b x c f d p w (inr q) still = (
  subst (λ z. Waits c z) (sym q.3) (record { seat = w.seat; phase = w.phase; blocked = w.blocked; count = w.count }),
  λ less. inl (ap (λ z. z.fed) q.3),
)

-- a client that is not served as it is closed, or too much is owed to it
pub unopen_served : (c : Client) → (c.phase ≡ phase.Closed) ⊎ (1048576 ≤ c.pending.count) → IsServed c
unopen_served c (inl closed) = λ less. inr closed
unopen_served c (inr full) = λ less. absurd (omega (arith, full, less))

pub tends_on : (a b x : Running) (c d e : Client) → Tends a b c d → Tends b x d e → Tends a x c e
tends_on a b x c d e one other = λ m r n s.
    let t = one m r n s in
    let u = other t.0 t.1 t.2.numbered t.4 in
    (u.0, u.1, goes_both c.id.0 m t.0 u.0 t.2 (subst (λ i. GoesOn i.0 t.0 u.0) t.3 u.2), u.3 ∙ t.3, u.4)

goes_by : (id : ℕ) (l m n : Machine) → GoesOn id l m → Stays m n → GoesOn id l n
goes_by id l m n g s = record {
  numbered = let P : List (ℕ × Link) → Type 0 = λ es. IsNumbered (record m { links = es }) in subst P (sym s.links) g.numbered;
  others = λ q never. ap (λ es. lookup (is_at (nat_cmp q)) es) s.links ∙ g.others q never;
  next = omega (arith, g.next, s.next);
}

link_by : (q : ℕ) (m n : Machine) → Stays m n → link_at q n ≡ link_at q m
link_by q m n s = ap (λ es. lookup (is_at (nat_cmp q)) es) s.links

-- turns follow
pub tends_by : (a b x : Running) (c d : Client) → Tends a b c d → PassesBy b x → Tends a x c d
tends_by a b x c d one by = λ m r n s.
    let t = one m r n s in
    let u = by t.0 t.1 in
    (u.0, u.1, goes_by c.id.0 m t.0 u.0 t.2 u.2, t.3, suits_same t.0 u.0 d (link_by d.id.0 t.0 u.0 u.2) u.2.next t.4)

-- a client that was served and then shown nothing
pub served_kept : (d e : Client) → Waits d e → Keeps d e → IsServed d → IsServed e
served_kept d e w k served = λ less. by_case (served (subst (λ n. n < 1048576) w.count less))
  where
    by_case : (d.fed ≡ false) ⊎ (d.phase ≡ phase.Closed) → (e.fed ≡ false) ⊎ (e.phase ≡ phase.Closed)
    by_case (inl unfed) = inl (k.fed ∙ unfed)
    by_case (inr closed) = inr (k.phase ∙ closed)

-- a client that was served and shown nothing, and no turn was made
pub answered_still : (p q r s t : Progress) (c d e : Client) → s ≡ both p q → t ≡ both s r → (p ≡ progress.Still → Waits c d × IsServed d) → (q ≡ progress.Still → Waits d e × Keeps d e) → t ≡ progress.Still
    → Waits c e × IsServed e
answered_still p q r s t c d e one other served shown still =
    let all = both_still s r (sym other ∙ still) in
    let two = both_still p q (sym one ∙ all.0) in
    let w = served two.0 in
    let k = shown two.1 in
    (waits_on c d e w.0 k.0, served_kept d e k.0 k.1 w.1)

-- ---- turns

pub passes_nothing : (a : Running) → PassesBy a a
passes_nothing a = λ m r. (m, r, stays_none m)

pub passes_both : (a b x : Running) → PassesBy a b → PassesBy b x → PassesBy a x
passes_both a b x one other = λ m r.
    let t = one m r in
    let u = other t.0 t.1 in
    (u.0, u.1, stays_both m t.0 u.0 t.2 u.2)

pub passes_turned : (a b : Running) (o : Option Turned) → Makes a b event.Turn (turned_if o) → PassesBy a b
passes_turned a b o makes = λ m r. ((step m event.Turn).1, (makes m r).1, turn_stays m)

pub passes_out : (a b : Running) (e : Event) → RunsOut a b e → PassesBy a b
passes_out a b e out = λ m r. (m, (out m r).0, stays_none m)

-- ---- a client rests

-- all bytes were sent
pub owed_sent : (p : Pending) → IsSent p → owed p ≡ []
owed_sent p sent = λ j. drop_all p.sent p.head sent.0 j ++ joined (sent.1 j)

-- if less than a mebibyte is owed, less is counted
under_limit : (p : Pending) → IsCounted p → length (owed p) < 1048576 → p.count < 1048576
under_limit p counted less = omega (arith, counted, less)

rests_quiet : (m : Machine) (c : Client) → MatchesConnection m c → IsQuiet c → Rests m c
rests_quiet m c s q = record {
  offered = q.owed;
  answered = λ less. request_answered m c.id (s.unfed (q.fed (under_limit c.pending s.counted less)));
  ended = λ less e. open_not_ending (sym q.phase ∙ e);
  closed = λ e. absurd (open_not_closed (sym q.phase ∙ e));
}

rests_same : (m n : Machine) (c : Client) → link_at c.id.0 n ≡ link_at c.id.0 m → Rests m c → Rests n c
rests_same m n c same r = record { offered = r.offered; answered = λ less. answered_same m n c.id same (r.answered less); ended = r.ended; closed = r.closed }

-- a client to which bytes were offered, which was served, and of which nothing was done
pub rests_visited : (n : Machine) (f e : Client) → MatchesConnection n e → Waits f e → IsServed e → (f.blocked ≡ false → IsSent f.pending) → (f.phase ≡ phase.Closed → IsSent f.pending → ⊥) → Rests n e
rests_visited n f e s w served sent over = record {
  offered = λ free. ap (λ z. z.owed) w.seat ∙ owed_sent f.pending (sent (sym w.blocked ∙ free));
  answered = λ less. by_case (served (under_limit e.pending s.counted less));
  ended = λ less ending. by_end ending (served (under_limit e.pending s.counted less));
  closed = λ closed. by_block e.blocked refl (sym w.phase ∙ closed);
}
  where
    by_case : (e.fed ≡ false) ⊎ (e.phase ≡ phase.Closed) → (step n (event.Serve e.id)).0 ≡ answer.Nothing
    by_case (inl unfed) = request_answered n e.id (s.unfed unfed)
    by_case (inr closed) = request_answered n e.id (gone_request e.id.0 (link_at e.id.0 n) (s.closed closed))

    by_end : e.phase ≡ phase.Ending → (e.fed ≡ false) ⊎ (e.phase ≡ phase.Closed) → ⊥
    by_end ending (inl unfed) = true≢false (sym (s.ending ending) ∙ unfed)
    by_end ending (inr closed) = closed_not_ending (sym closed ∙ ending)

    by_block : (b : Bool) → e.blocked ≡ b → f.phase ≡ phase.Closed → e.blocked ≡ true
    by_block true is closed = is
    by_block false is closed = absurd (over closed (sent (sym w.blocked ∙ is)))

-- ---- all clients

-- the relations of `AllMatch` by the clients and the places that are awake
abbrev pub MatchOn : Running → Running → List Client → Awake → List Client → Awake → Type 0
MatchOn old new cs awake ds later = (m : Machine) → Refines old m → AllMatch m cs awake → (n : Machine) × Refines new n × AllMatch n ds later

abbrev pub VisitsAt : Running → Running → List Client → Awake → List Client → Awake → ℕ → Type 0 → Type 0
VisitsAt old new cs awake ds later place still = (m : Machine) → Refines old m → AllMatch m cs awake
    → (n : Machine) × Refines new n × AllMatch n ds later × (still → RestBefore m place cs → RestBefore n (place + 1) ds)

abbrev pub SettlesOn : Running → Running → List Client → Awake → List Client → Awake → Type 0 → Type 0
SettlesOn old new cs awake ds later still = (m : Machine) → Refines old m → AllMatch m cs awake → (n : Machine) × Refines new n × AllMatch n ds later × (still → AreAtRest n ds)

pub on_nothing : (a : Running) (cs : List Client) (aw : Awake) → MatchOn a a cs aw cs aw
on_nothing a cs aw = λ m r s. (m, r, s)

pub on_both : (a b x : Running) (cs ds es : List Client) (aw bw xw : Awake) → MatchOn a b cs aw ds bw → MatchOn b x ds bw es xw → MatchOn a x cs aw es xw
on_both a b x cs ds es aw bw xw one other = λ m r s.
    let t = one m r s in
    other t.0 t.1 t.2

pub on_as : (a b : Running) (cs ds es : List Client) (aw bw xw : Awake) → MatchOn a b cs aw ds bw → es ≡ ds → xw ≡ bw → MatchOn a b cs aw es xw
on_as a b cs ds es aw bw xw one same also = λ m r s.
    let t = one m r s in
    (t.0, t.1, subst (λ xs. AllMatch t.0 xs xw) (sym same) (subst (λ ks. AllMatch t.0 ds ks) (sym also) t.2))

-- at first there are no clients
pub stands_none : (m : Machine) (cs : List Client) (aw : Awake) → cs ≡ [] → IsNumbered m → AllMatch m cs aw
unfolding Rise
stands_none m cs aw none k = subst (λ xs. AllMatch m xs aw) (sym none) (record { numbered = k; suit = tt; rise = tt; asleep = λ i below. absurd (omega (arith, below)) })

-- what stands on one machine stands on one with the same connections
stands_by : (m n : Machine) (cs : List Client) (aw : Awake) → Stays m n → AllMatch m cs aw → AllMatch n cs aw
stands_by m n cs aw by s = record {
  numbered = let P : List (ℕ × Link) → Type 0 = λ es. IsNumbered (record m { links = es }) in subst P (sym by.links) s.numbered;
  suit = each_to (λ c. MatchesConnection m c) (λ c. MatchesConnection n c) cs (λ c suits. suits_same m n c (link_by c.id.0 m n by) by.next suits) s.suit;
  rise = s.rise;
  asleep = s.asleep;
}

pub on_passing : (a b : Running) (cs : List Client) (aw : Awake) → PassesBy a b → MatchOn a b cs aw cs aw
on_passing a b cs aw by = λ m r s.
    let t = by m r in
    (t.0, t.1, stands_by m t.0 cs aw t.2 s)

-- the machine stays as it is, and what is kept suits it still
pub on_each : (a : Running) (cs ds : List Client) (aw bw : Awake) → ((m : Machine) → AllMatch m cs aw → AllMatch m ds bw) → MatchOn a a cs aw ds bw
on_each a cs ds aw bw each = λ m r s. (m, r, each m s)

-- more places are awake
pub on_woken : (a : Running) (cs : List Client) (aw bw : Awake) → ((j : ℕ) → IsWithin aw j → IsWithin bw j) → MatchOn a a cs aw cs bw
on_woken a cs aw bw more = λ m r s. (m, r, record { numbered = s.numbered; suit = s.suit; rise = s.rise; asleep = asleep_more aw bw cs more s.asleep })

-- one client more may have something to show
called_next : (o : Option (List ℕ)) (cs : List Client) (n : ℕ) → HoldsAt (λ c. is_called o c.watching ≡ true → c.shown ≡ false) cs n → AreCalled o n cs → AreCalled o (suc n) cs
called_next o cs n here before i below = by_place (cases_lt i n)
  where
    by_place : (i < n) ⊎ (n ≤ i) → HoldsAt (λ c. is_called o c.watching ≡ true → c.shown ≡ false) cs i
    by_place (inl under) = before i under
    by_place (inr past) = let same : n ≡ i = omega (arith, below, past) in subst (λ k. HoldsAt (λ c. is_called o c.watching ≡ true → c.shown ≡ false) cs k) same here

pub called_kept : (o : Option (List ℕ)) (cs : List Client) (n : ℕ) (c : Client) → n < length cs → c ≡ get_or cs n c → is_called o c.watching ≡ false → AreCalled o n cs → AreCalled o (suc n) cs
called_kept o cs n c below is uncalled = called_next o cs n (λ d. subst (λ x. is_called o x.watching ≡ true → x.shown ≡ false) (is ∙ get_or_default cs n c d below) (λ called. absurd (true≢false (sym called ∙ uncalled))))

pub called_set : (o : Option (List ℕ)) (cs : List Client) (n : ℕ) (e : Client) → n < length cs → e.shown ≡ false → AreCalled o n cs → AreCalled o (suc n) (set cs n e)
called_set o cs n e below unshown before = called_next o (set cs n e) n (λ d. subst (λ x. is_called o x.watching ≡ true → x.shown ≡ false) (sym (get_or-set_same cs n e d below)) (λ called. unshown))
    (λ i under d. subst (λ x. is_called o x.watching ≡ true → x.shown ≡ false) (sym (get_or-set_other cs n i e d (λ same. absurd (omega (arith, under, same))))) (before i under d))

-- the clients whose watches a change may concern are called
pub roused_by : (m : Machine) (revision : ℕ) (o : Option (List ℕ)) (cs : List Client) (aw : Awake) → AllMatch m cs aw → AreCalled o (length cs) cs
    → ((ns : List ℕ) → o ≡ Some ns → (id : ℕ) → is_concerned m id revision ≡ true → is_among ns (fingerprint_on (link_at id m)) ≡ true) → AreRoused m revision cs
roused_by m revision o cs aw s called listed i below d concerned =
    let c : Client = get_or cs i d in
    let suits : MatchesConnection m c = each_at (λ x. MatchesConnection m x) cs i d s.suit below in
    called i below d (subst (λ w. is_called o w ≡ true) (sym suits.watching) (by_list c.id.0 o listed concerned))
  where
    some_watch : (l : Option Link) → fingerprint_some (later revision m.changes) (watch_on l) ≡ true → is_some (fingerprint_on l) ≡ true
    some_watch None h = absurd (cc h)
    some_watch (Some l) h = by_watch l.watching h
      where
        by_watch : (w : Option PlainWatching) → fingerprint_some (later revision m.changes) w ≡ true → is_some (option_map fingerprint_of_watch w) ≡ true
        by_watch None h = absurd (cc h)
        by_watch (Some w) h = refl

    by_list : (id : ℕ) (o : Option (List ℕ)) → ((ns : List ℕ) → o ≡ Some ns → (id : ℕ) → is_concerned m id revision ≡ true → is_among ns (fingerprint_on (link_at id m)) ≡ true)
        → is_concerned m id revision ≡ true → is_called o (fingerprint_on (link_at id m)) ≡ true
    by_list id None listed h = some_watch (link_at id m) h
    by_list id (Some ns) listed h = listed ns refl id h

-- what holds of the items of a list, if there is one
pub some_items : (o : Option (Vec ℕ)) (P : List ℕ → Type 0) → IfSome o (λ v. P v.items) → (ns : List ℕ) → option_map (λ v. v.items) o ≡ Some ns → P ns
some_items None P h ns is = absurd (cc is)
some_items (Some v) P h ns is = subst P (same_items v.items ns is) h
  where
    same_items : (xs ys : List ℕ) → Some xs ≡ Some ys → xs ≡ ys
    same_items xs ys e = cc e

-- one client is changed, which is awake
pub stands_set : (m n : Machine) (cs : List Client) (aw bw : Awake) (i : ℕ) (d e : Client) → AllMatch m cs aw → i < length cs → GoesOn (get_or cs i d).id.0 m n → e.id ≡ (get_or cs i d).id → MatchesConnection n e
    → IsWithin bw i → ((j : ℕ) → IsWithin aw j → IsWithin bw j) → AllMatch n (set cs i e) bw
stands_set m n cs aw bw i d e s below g same suits awake more = record {
  numbered = g.numbered;
  suit = each_set (λ c. MatchesConnection m c) (λ c. MatchesConnection n c) cs i d e s.rise below (λ c never suits. suits_same m n c (g.others c.id.0 never) g.next suits) s.suit suits;
  rise = rise_set cs i d e s.rise below same;
  asleep = asleep_set bw cs i e (inl awake) (asleep_more aw bw cs more s.asleep);
}

-- a client that is awake is kept otherwise
pub stands_kept : (m : Machine) (cs : List Client) (aw bw : Awake) (i : ℕ) (c e : Client) → i < length cs → c ≡ get_or cs i c → Keeps c e → IsWithin bw i → ((j : ℕ) → IsWithin aw j → IsWithin bw j) → AllMatch m cs aw
    → AllMatch m (set cs i e) bw
stands_kept m cs aw bw i c e below is keeps awake more s =
    let own : MatchesConnection m c = subst (λ x. MatchesConnection m x) (sym is) (each_at (λ x. MatchesConnection m x) cs i c s.suit below) in
    stands_set m m cs aw bw i c e s below (goes_none (get_or cs i c).id.0 m s.numbered) (keeps.id ∙ ap (λ x. x.id) is) (suits_kept m c e keeps own) awake more

-- one client leaves
stands_left : (m n : Machine) (cs : List Client) (aw : Awake) (i : ℕ) (d : Client) → AllMatch m cs aw → i < length cs → GoesOn (get_or cs i d).id.0 m n → AllMatch n (remove cs i) (record aw { start = aw.start - 1 })
stands_left m n cs aw i d s below g = record {
  numbered = g.numbered;
  suit = each_left (λ c. MatchesConnection m c) (λ c. MatchesConnection n c) cs i d s.rise below (λ c never suits. suits_same m n c (g.others c.id.0 never) g.next suits) s.suit;
  rise = rise_left cs i s.rise;
  asleep = asleep_left aw cs i below s.asleep;
}

-- the next connection is opened or not
stands_next : (m n : Machine) (cs : List Client) (aw : Awake) → AllMatch m cs aw → GoesOn m.next_id m n → AllMatch n cs aw
stands_next m n cs aw s g = record {
  numbered = g.numbered;
  suit = each_to (λ c. MatchesConnection m c) (λ c. MatchesConnection n c) cs (λ c suits. suits_same m n c (g.others c.id.0 (λ same. let less : c.id.0 < m.next_id = suits.below in omega (arith, less, same))) g.next suits) s.suit;
  rise = s.rise;
  asleep = s.asleep;
}

-- a client comes
stands_more : (m n : Machine) (cs : List Client) (aw : Awake) (e : Client) → AllMatch m cs aw → GoesOn m.next_id m n → e.id.0 ≡ m.next_id → MatchesConnection n e → IsQuiet e → AllMatch n (cs ++ e ∷ []) aw
stands_more m n cs aw e s g next suits quiet =
    let stands = stands_next m n cs aw s g in
    record {
      numbered = g.numbered;
      suit = each_more (λ c. MatchesConnection n c) cs e stands.suit suits;
      rise = rise_more cs e s.rise (each_to (λ c. MatchesConnection m c) (λ c. c.id.0 < e.id.0) cs (λ c has. let less : c.id.0 < m.next_id = has.below in omega (arith, less, next)) s.suit);
      asleep = asleep_came aw cs e quiet s.asleep;
    }

-- a connection was opened for a client, or none
pub on_opened : (a b : Running) (cs ds : List Client) (aw : Awake) (who : Identity) (id : ConnId) → Makes a b (event.Open who) (answer.Opened id) → (e : Client) × (ds ≡ cs ++ e ∷ []) × (e.id ≡ id) × IsNew e
    → MatchOn a b cs aw ds aw
on_opened a b cs ds aw who id makes fresh = λ m r s.
    let e : Client = fresh.0 in
    let new : IsNew e = fresh.3 in
    let n : Machine = (step m (event.Open who)).1 in
    let told = (makes m r).0 in
    let g = goes_event m (event.Open who) m.next_id refl s.numbered in
    let next = opened_next m who id (sym told) in
    let at : e.id.0 ≡ m.next_id = ap (λ i. i.0) fresh.2 ∙ next.0 in
    let suits : MatchesConnection n e = record {
      unfed = λ u. subst (λ k. HasNoRequest k (link_at k n)) (sym at) (opened_request m who id told);
      closed = λ closed. absurd (open_not_closed (sym new.quiet.phase ∙ closed));
      ending = λ ending. absurd (open_not_ending (sym new.quiet.phase ∙ ending));
      counted = new.counted;
      below = let up : n.next_id ≡ m.next_id + 1 = next.1 in omega (arith, at, up);
      watching = new.unwatched ∙ subst (λ k. None ≡ fingerprint_on (link_at k n)) (sym at) (opened_fingerprint m who id told);
    } in
    (n, (makes m r).1, subst (λ xs. AllMatch n xs aw) (sym fresh.1) (stands_more m n cs aw e s g at suits new.quiet))

pub on_unopened : (a b : Running) (cs : List Client) (aw : Awake) (who : Identity) (o : OpenError) → Opens a b who (Err o) → MatchOn a b cs aw cs aw
on_unopened a b cs aw who refused.TooMany makes = λ m r s. ((step m (event.Open who)).1, (makes m r).1, stands_next m (step m (event.Open who)).1 cs aw s (goes_event m (event.Open who) m.next_id refl s.numbered))
on_unopened a b cs aw who refused.Memory out = λ m r s. (m, (out m r).0, s)

-- a client's connection is closed
pub on_closed : (a b : Running) (cs ds : List Client) (aw : Awake) (i : ℕ) (d : Client) → i < length cs → d ≡ get_or cs i d → ds ≡ remove cs i → Makes a b (event.Close d.id) answer.Done
    → MatchOn a b cs aw ds (record aw { start = aw.start - 1 })
on_closed a b cs ds aw i d below is are makes = λ m r s.
    let n : Machine = (step m (event.Close d.id)).1 in
    let g = goes_event m (event.Close d.id) d.id.0 refl s.numbered in
    (n, (makes m r).1, subst (λ xs. AllMatch n xs (record aw { start = aw.start - 1 })) (sym are) (stands_left m n cs aw i d s below (subst (λ c. GoesOn c.id.0 m n) is g)))

-- the client at a place left
pub on_left : (a b : Running) (cs ds : Clients) (r s : Report) (i : ℕ) (e : Client) → i < length cs.list.items → Ends i a b cs ds r s → MatchOn a b cs.list.items cs.awake ds.list.items ds.awake
on_left a b cs ds r s i e below left =
    let c : Client = get_or cs.list.items i e in
    on_as _ _ _ _ _ _ _ _ (on_closed a b cs.list.items ds.list.items cs.awake i c below (get_or_default cs.list.items i e c below) left.list (left.closes e)) refl left.awake

-- a client's bytes have ended
pub stands_ended : (m : Machine) (cs : List Client) (aw : Awake) (i : ℕ) (c : Client) → i < length cs → c ≡ get_or cs i c → IsWithin aw i → AllMatch m cs aw
    → AllMatch m (set cs i (record c { phase = phase.Ending; fed = true })) aw
stands_ended m cs aw i c below is has s =
    let own : MatchesConnection m c = subst (λ x. MatchesConnection m x) (sym is) (each_at (λ x. MatchesConnection m x) cs i c s.suit below) in
    stands_set m m cs aw aw i c (record c { phase = phase.Ending; fed = true }) s below (goes_none (get_or cs i c).id.0 m s.numbered) (ap (λ x. x.id) is)
    (record { unfed = λ e. absurd (true≢false e); closed = λ e. absurd (closed_not_ending (sym e)); ending = λ e. refl; counted = own.counted; below = own.below; watching = own.watching }) has (λ j h. h)

-- a piece of a client is fed
pub on_fed : (a b : Running) (cs : List Client) (aw : Awake) (i : ℕ) (c : Client) (id : ConnId) (piece : List ℕ) → i < length cs → c ≡ get_or cs i c → id ≡ c.id → IsWithin aw i
    → (get_or cs i c).phase ≡ phase.Open → Makes a b (event.Feed id piece) answer.Done → MatchOn a b cs aw (set cs i (record c { fed = true })) aw
on_fed a b cs aw i c id piece below is same has reading makes = λ m r s.
    let n : Machine = (step m (event.Feed id piece)).1 in
    let g : GoesOn c.id.0 m n = goes_event m (event.Feed id piece) c.id.0 (ap (λ k. k.0) same) s.numbered in
    let own : MatchesConnection m c = subst (λ x. MatchesConnection m x) (sym is) (each_at (λ x. MatchesConnection m x) cs i c s.suit below) in
    let going : c.phase ≡ phase.Open = subst (λ x. x.phase ≡ phase.Open) (sym is) reading in (
      n,
      (makes m r).1,
      stands_set m n cs aw aw i c (record c { fed = true }) s below (subst (λ x. GoesOn x.id.0 m n) is g) (ap (λ x. x.id) is)
          (suits_fed m n c (record c { fed = true }) g own refl refl (λ closed. absurd (open_not_closed (sym going ∙ closed))) own.counted (own.watching ∙ subst (λ k. fingerprint_on (link_at k.0 m) ≡ fingerprint_on (link_at k.0 n)) same (fed_fingerprint m id piece))) has (λ j h. h),
    )

-- a piece of a client is not taken in
pub on_refused : (a b : Running) (cs : List Client) (aw : Awake) (id : ConnId) (piece : List ℕ) (r : FeedError) → TakesIn a b id piece (Err r) → MatchOn a b cs aw cs aw
on_refused a b cs aw id piece fed.Memory out = λ m r s. (m, (out m r).0, s)
on_refused a b cs aw id piece fed.Full makes = λ m r s. (m, subst (λ q. Refines b q) (unfed_stays m id piece answer.Full (makes m r).0 (λ same. absurd (cc))) (makes m r).1, s)
on_refused a b cs aw id piece fed.Ended makes = λ m r s. (m, subst (λ q. Refines b q) (unfed_stays m id piece answer.Ended (makes m r).0 (λ same. absurd (cc))) (makes m r).1, s)

-- a place sleeps whose client is quiet, or that has none
pub stands_passed : (m : Machine) (cs : List Client) (aw bw : Awake) (p : ℕ) → (p < length cs → HoldsAt (λ c. IsQuiet c) cs p) → ((i : ℕ) → (i ≡ p → ⊥) → IsWithin aw i → IsWithin bw i) → AllMatch m cs aw → AllMatch m cs bw
stands_passed m cs aw bw p quiet others s = record { numbered = s.numbered; suit = s.suit; rise = s.rise; asleep = λ i below. by_place i below (cases_eq i p) (s.asleep i below) }
  where
    by_place : (i : ℕ) → i < length cs → (i ≡ p) ⊎ (i ≡ p → ⊥) → IsWithin aw i ⊎ HoldsAt (λ c. IsQuiet c) cs i → IsWithin bw i ⊎ HoldsAt (λ c. IsQuiet c) cs i
    by_place i below (inl same) asleep = inr (subst (λ k. HoldsAt (λ c. IsQuiet c) cs k) (sym same) (quiet (subst (λ k. k < length cs) same below)))
    by_place i below (inr never) (inl within) = inl (others i never within)
    by_place i below (inr never) (inr asleep) = inr asleep

-- ---- visits

rests_asleep : (m : Machine) (cs : List Client) (i : ℕ) → i < length cs → AllByRecursion (λ c. MatchesConnection m c) cs → HoldsAt (λ c. IsQuiet c) cs i → HoldsAt (λ c. Rests m c) cs i
rests_asleep m cs i below suit quiet d = rests_quiet m (get_or cs i d) (each_at (λ c. MatchesConnection m c) cs i d suit below) (quiet d)

-- at first those before the first place that is awake rest
rest_first : (m : Machine) (cs : List Client) (aw : Awake) → AllMatch m cs aw → RestBefore m aw.start cs
rest_first m cs aw s i before below = elim (s.asleep i below) [ inl within ↦ absurd (omega (arith, before, within.0)) | inr quiet ↦ rests_asleep m cs i below s.suit quiet ]

-- at last all rest
rest_last : (m : Machine) (cs : List Client) (aw : Awake) (p : ℕ) → aw.end ≤ p → AllMatch m cs aw → RestBefore m p cs → AreAtRest m cs
rest_last m cs aw p past s rest = each_by_place (λ c. Rests m c) cs (λ i below. by_place i below (cases_lt i p) (s.asleep i below))
  where
    by_place : (i : ℕ) → i < length cs → (i < p) ⊎ (p ≤ i) → IsWithin aw i ⊎ HoldsAt (λ c. IsQuiet c) cs i → HoldsAt (λ c. Rests m c) cs i
    by_place i below (inl before) asleep = rest i before below
    by_place i below (inr behind) (inl within) = absurd (omega (arith, past, behind, within.1))
    by_place i below (inr behind) (inr quiet) = rests_asleep m cs i below s.suit quiet

-- the client at a place rests, and those before it as before
rest_set : (m n : Machine) (cs : List Client) (i : ℕ) (d e : Client) → Rise cs → i < length cs → GoesOn (get_or cs i d).id.0 m n → Rests n e → RestBefore m i cs → RestBefore n (i + 1) (set cs i e)
rest_set m n cs i d e rise below g rests rest j under inside = by_place (cases_lt j i)
  where
    by_place : (j < i) ⊎ (i ≤ j) → HoldsAt (λ c. Rests n c) (set cs i e) j
    by_place (inl before) = λ x.
        let c : Client = get_or cs j x in
        let less : c.id.0 < (get_or cs i x).id.0 = rise_less cs j i x rise before below in
        let at : (get_or cs i x).id.0 ≡ (get_or cs i d).id.0 = ap (λ y. y.id.0) (get_or_default cs i x d below) in
        subst (λ y. Rests n y) (sym (get_or-set_other cs i j e x (λ same. absurd (omega (arith, before, same)))))
        (rests_same m n c (g.others c.id.0 (λ same. omega (arith, less, at, same))) (rest j before (omega (arith, before, below)) x))
    by_place (inr behind) = λ x. subst (λ y. Rests n y) (sym (get_or-set_at cs i j e x (omega (arith, under, behind)) below)) rests

-- a client that was passed by rests
pub visits_passed : (a : Running) (cs : List Client) (aw : Awake) (p : ℕ) (still : Type 0) → (p < length cs → HoldsAt (λ c. IsQuiet c) cs p) → VisitsAt a a cs aw cs aw p still
visits_passed a cs aw p still quiet = λ m r s. (m, r, s, λ h rest i under below. by_place m s rest i under below (cases_lt i p))
  where
    by_place : (m : Machine) → AllMatch m cs aw → RestBefore m p cs → (i : ℕ) → i < p + 1 → i < length cs → (i < p) ⊎ (p ≤ i) → HoldsAt (λ c. Rests m c) cs i
    by_place m s rest i under below (inl before) = rest i before below
    by_place m s rest i under below (inr behind) =
        let same : p ≡ i = omega (arith, under, behind) in
        rests_asleep m cs i below s.suit (subst (λ k. HoldsAt (λ c. IsQuiet c) cs k) same (quiet (subst (λ k. k < length cs) (sym same) below)))

-- something was done for a client, which may have left
pub visits_made : (a b : Running) (cs ds : List Client) (aw bw : Awake) (p : ℕ) (still : Type 0) → (still → ⊥) → MatchOn a b cs aw ds bw → VisitsAt a b cs aw ds bw p still
visits_made a b cs ds aw bw p still never on = λ m r s.
    let t = on m r s in
    (t.0, t.1, t.2, λ h rest. absurd (never h))

-- a client was tended
pub on_tended : (a b : Running) (cs : List Client) (aw : Awake) (i : ℕ) (c e : Client) → i < length cs → IsWithin aw i → c ≡ get_or cs i c → Tends a b c e → MatchOn a b cs aw (set cs i e) aw
on_tended a b cs aw i c e below within is tends = λ m r s.
    let t = tends m r s.numbered (subst (λ z. MatchesConnection m z) (sym is) (each_at (λ x. MatchesConnection m x) cs i c s.suit below)) in
    (t.0, t.1, stands_set m t.0 cs aw aw i c e s below (subst (λ z. GoesOn z.id.0 m t.0) is t.2) (t.3 ∙ ap (λ z. z.id) is) t.4 within (λ j h. h))

-- the watch of a client was moved on, if it was
pub tends_skipped : (a b : Running) (c : Client) (skipped : Bool) → (skipped ≡ true → Makes a b (event.Pump c.id) answer.Nothing) → (skipped ≡ true → c.phase ≡ phase.Closed → ⊥) → (skipped ≡ false → b ≡ a) → Tends a b c c
tends_skipped a b c true makes going same = tends_unshown a b c c None (keeps_nothing c) (makes refl) refl (going refl)
tends_skipped a b c false makes going same = subst (λ x. Tends a x c c) (sym (same refl)) (tends_nothing a c c (keeps_nothing c))

-- a client was tended that may sleep, and then stays as it was
pub on_passed : (a b : Running) (cs : List Client) (aw : Awake) (i : ℕ) (c e : Client) → i < length cs → c ≡ get_or cs i c → Tends a b c e → (IsQuiet c → e ≡ c) → MatchOn a b cs aw (set cs i e) aw
on_passed a b cs aw i c e below is tends same = λ m r s.
    let own : MatchesConnection m c = subst (λ z. MatchesConnection m z) (sym is) (each_at (λ x. MatchesConnection m x) cs i c s.suit below) in
    let t = tends m r s.numbered own in
    let g : GoesOn (get_or cs i c).id.0 m t.0 = subst (λ z. GoesOn z.id.0 m t.0) is t.2 in (
      t.0,
      t.1,
      record {
        numbered = g.numbered;
        suit = each_set (λ x. MatchesConnection m x) (λ x. MatchesConnection t.0 x) cs i c e s.rise below (λ x never suits. suits_same m t.0 x (g.others x.id.0 never) g.next suits) s.suit t.4;
        rise = rise_set cs i c e s.rise below (t.3 ∙ ap (λ z. z.id) is);
        asleep = asleep_set aw cs i e (by_case (s.asleep i below)) s.asleep;
      },
    )
  where
    by_case : IsWithin aw i ⊎ HoldsAt (λ x. IsQuiet x) cs i → IsWithin aw i ⊎ IsQuiet e
    by_case (inl within) = inl within
    by_case (inr quiet) = let q : IsQuiet c = subst (λ x. IsQuiet x) (sym is) (quiet c) in inr (subst (λ x. IsQuiet x) (sym (same q)) q)

pub visits_tended : (a b : Running) (cs : List Client) (aw : Awake) (i : ℕ) (c f e : Client) (still : Type 0) → i < length cs → IsWithin aw i → c ≡ get_or cs i c → Tends a b c e → (still → Waits f e × IsServed e)
    → (f.blocked ≡ false → IsSent f.pending) → (f.phase ≡ phase.Closed → IsSent f.pending → ⊥) → VisitsAt a b cs aw (set cs i e) aw i still
visits_tended a b cs aw i c f e still below within is tends rests sent over = λ m r s.
    let t = tends m r s.numbered (subst (λ z. MatchesConnection m z) (sym is) (each_at (λ x. MatchesConnection m x) cs i c s.suit below)) in
    let g : GoesOn (get_or cs i c).id.0 m t.0 = subst (λ z. GoesOn z.id.0 m t.0) is t.2 in (
      t.0,
      t.1,
      stands_set m t.0 cs aw aw i c e s below g (t.3 ∙ ap (λ z. z.id) is) t.4 within (λ j h. h),
      λ h rest. let w = rests h in rest_set m t.0 cs i c e s.rise below g (rests_visited t.0 f e t.4 w.0 w.1 sent over) rest,
    )

-- ---- rounds

-- the clients stand, and while nothing was done those that were visited rest
pub record Round (a b : Running) (cs : List Client) (aw : Awake) (ds : List Client) (bw : Awake) (p : ℕ) (still : Type 0) : Type 0 where
  pub goes : (m : Machine) → Refines a m → AllMatch m cs aw → (n : Machine) × Refines b n × AllMatch n ds bw × (still → RestBefore n p ds)

pub round_first : (a b : Running) (cs : List Client) (aw : Awake) (still : Type 0) → PassesBy a b → Round a b cs aw cs aw aw.start still
round_first a b cs aw still by = record {
  goes = λ m r s.
      let t = by m r in
      let stands = stands_by m t.0 cs aw t.2 s in
      (t.0, t.1, stands, λ h. rest_first t.0 cs aw stands);
}

-- one visit more
pub round_next : (a b x : Running) (cs ds es : List Client) (aw bw xw : Awake) (p : ℕ) (still now later : Type 0) → (later → still × now) → Round a b cs aw ds bw p still → VisitsAt b x ds bw es xw p now → Round a x cs aw es xw (p + 1) later
round_next a b x cs ds es aw bw xw p still now later before one visit = record {
  goes = λ m r s.
      let t = one.goes m r s in
      let u = visit t.0 t.1 t.2 in
      (u.0, u.1, u.2, λ h. u.3 (before h).1 (t.3 (before h).0));
}

-- between two visits watches may be moved on; if none was, all is as before
pub round_passed : (a b x : Running) (cs ds es : List Client) (aw bw xw : Awake) (p : ℕ) (still later : Type 0) (passed : Progress) → (later → still × (passed ≡ progress.Still)) → Round a b cs aw ds bw p still → MatchOn b x ds bw es xw → xw ≡ bw
    → (passed ≡ progress.Still → (x ≡ b) × (es ≡ ds)) → Round a x cs aw es xw p later
round_passed a b x cs ds es aw bw xw p still later progress.Still before one stands also same = record {
  goes = λ m r s.
      let t = one.goes m r s in
      let are = same refl in (
        t.0,
        subst (λ z. Refines z t.0) (sym are.0) t.1,
        subst (λ xs. AllMatch t.0 xs xw) (sym are.1) (subst (λ ks. AllMatch t.0 ds ks) (sym also) t.2),
        λ h. subst (λ xs. RestBefore t.0 p xs) (sym are.1) (t.3 (before h).0),
      );
}
round_passed a b x cs ds es aw bw xw p still later progress.Made before one stands also same = record {
  goes = λ m r s.
      let t = one.goes m r s in
      let u = stands t.0 t.1 t.2 in
      (u.0, u.1, u.2, λ h. absurd (made_not_still (before h).1));
}
round_passed a b x cs ds es aw bw xw p still later progress.Starved before one stands also same = record {
  goes = λ m r s.
      let t = one.goes m r s in
      let u = stands t.0 t.1 t.2 in
      (u.0, u.1, u.2, λ h. absurd (starved_not_still (before h).1));
}

pub round_last : (a b : Running) (cs ds : List Client) (aw bw : Awake) (p : ℕ) (still : Type 0) → bw.end ≤ p → Round a b cs aw ds bw p still → SettlesOn a b cs aw ds bw still
round_last a b cs ds aw bw p still past one = λ m r s.
    let t = one.goes m r s in
    (t.0, t.1, t.2, λ h. rest_last t.0 ds bw p past t.2 (t.3 h))

-- behind the visits those that watch were woken, unless nothing was to be done
pub settles_woken : (a b : Running) (cs ds es : List Client) (aw bw xw : Awake) (still now later : Type 0) → (later → still × now) → SettlesOn a b cs aw ds bw still → ((m : Machine) → AllMatch m ds bw → AllMatch m es xw) → (now → es ≡ ds)
    → SettlesOn a b cs aw es xw later
settles_woken a b cs ds es aw bw xw still now later before one woken same = λ m r s.
    let t = one m r s in
    (t.0, t.1, woken t.0 t.2, λ h. subst (λ xs. AreAtRest t.0 xs) (sym (same (before h).1)) (t.3 (before h).0))

pub settles_on : (a b x : Running) (cs ds es : List Client) (aw bw xw : Awake) (still : Type 0) → MatchOn a b cs aw ds bw → SettlesOn b x ds bw es xw still → SettlesOn a x cs aw es xw still
settles_on a b x cs ds es aw bw xw still one other = λ m r s.
    let t = one m r s in
    other t.0 t.1 t.2

-- what settles stands
pub on_settled : (a b : Running) (cs ds : List Client) (aw bw : Awake) (still : Type 0) → SettlesOn a b cs aw ds bw still → MatchOn a b cs aw ds bw
on_settled a b cs ds aw bw still one = λ m r s.
    let t = one m r s in
    (t.0, t.1, t.2)
