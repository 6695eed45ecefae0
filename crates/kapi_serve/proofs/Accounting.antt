-- Each byte of the ports is accounted for.
use Rattle.std.proofs.Common.{◌≡◌, ℕ, ◌+◌, ◌<◌, ◌≤◌, ◌==◌, Bool, true, false, if◌then◌else◌, List, [], ◌∷◌, ◌++◌, Option, Some, None, refl, sym, ap, ◌∙◌, subst, append_assoc, arith, inl, inr}
use Rattle.std.specs.Prelude.{◌⊎◌}
use Rattle.std.proofs.lemmas.Bool.{eq-eqb}
use Rattle.kapi_core.specs.Machine.{Machine, after, answers, step}
use Rattle.kapi_core.specs.declared.event.Answer.{Answer}
use Rattle.kapi_core.specs.declared.event.Answer.TheVariants as answer
use Rattle.kapi_core.specs.declared.event.ConnId.{ConnId}
use Rattle.kapi_core.specs.declared.event.Event.TheVariants as event
use Rattle.kapi_model.specs.declared.identity.Identity.{Identity}
use Rattle.kapi_serve.specs.declared.port.Entry.{Entry}
use Rattle.kapi_serve.specs.declared.port.Entry.TheVariants as entry
use Rattle.kapi_serve.specs.Account.{Account, AreTheirs, Made, Talk, Visit, accepted_by, answered_to, closes, fed_to, last_read, present, read_from, talks, visits}
use Rattle.kapi_serve.specs.Acts.{Act, Exchange, Follows, IsFree, Leaves, ClientState, answers_of, end_of, ends, entries_in, events_of, drops, made_in, opens, serves, rejects, turns}
use Rattle.kapi_serve.proofs.Flows.{differs_back, talks_on, visits_end, visits_on}
use Rattle.kapi_serve.proofs.Numbers.{first_same, grows, grows_by, opened_next, rest_same, told_later}
use Rattle.kapi_serve.proofs.Seats.{IsNew, Sits, id_is_below, id_is_new, ids, ids_more, ids_same, ids_with, less_differs, new_at, new_if_free, new_more, new_without, next_is_new, nobody_sits, sits_left, sits_more, sits_served, sits_up, slot_is_new, slots, slots_more, slots_same, slots_with}
use Rattle.kapi_serve.proofs.Fares.{AllFare, Fares, Passes, Skips, all_fare_beside, all_fare_nothing, all_fare_turned, fare_among, fare_back, fare_front, fares_dealt, fares_left, passes_nothing, passes_on, passes_open, passes_turn, skips_both, skips_end, skips_on, skips_opened}

-- ---- all of it

-- the account and how the clients fare; a free slot gives and accepts nothing, and nothing is fed or answered to a
-- connection that has ended
record Holds (n : ℕ) (s : List ClientState) (es : List Entry) (ms : List Made) : Type 0 where
  pub account : Account es ms
  pub seats : AllFare s es ms
  pub free : (k : ℕ) → IsNew k (slots s) → (read_from k es ≡ []) × (accepted_by k es ≡ [])
  pub gone : (c : ConnId) → c.0 < n → IsNew c.0 (ids s) → (fed_to c ms ≡ []) × (answered_to c ms ≡ [])

-- the same visits and talks make the same account
account_same : (ds es : List Entry) (ls ms : List Made) → visits ds ≡ visits es → talks ls ≡ talks ms → Account es ms → Account ds ls
account_same ds es ls ms visits_same talks_same a = record {
  given = a.given;
  all = a.all ∙ sym talks_same;
  theirs = subst (λ vs. AreTheirs vs a.given) (sym visits_same) a.theirs;
}

-- the account holds if nothing comes
holds_nothing : (n : ℕ) (s : List ClientState) → Holds n s [] []
unfolding visits talks present AreTheirs read_from accepted_by fed_to answered_to
holds_nothing n s = record {
  account = record { given = []; all = refl; theirs = tt };
  seats = all_fare_nothing s;
  free = λ k new. (refl, refl);
  gone = λ c below new. (refl, refl);
}

-- something is done for a client
holds_served : (n p : ℕ) (x y : ClientState) (f b : List ClientState) (ds es : List Entry) (ls ms : List Made) → n ≤ p → Sits n (f ++ x ∷ b) → Exchange x y ds ls
    → Holds p (f ++ y ∷ b) es ms → Holds n (f ++ x ∷ b) (ds ++ es) (ls ++ ms)
unfolding AllFare
holds_served n p x y f b ds es ls ms up sits d h =
    let skips : Skips x.slot (ds ++ es) es = skips_on x.slot ds es d.on in
    let passes : Passes x.conn.0 (ls ++ ms) ms = passes_on x.conn ls ms d.to in
    let back : AllFare (y ∷ b) es ms = fare_back f (y ∷ b) es ms h.seats in
    record {
      account = account_same (ds ++ es) es (ls ++ ms) ms (visits_on x.slot ds es d.on) (talks_on x.conn ls ms d.to) h.account;
      seats = fare_among n x f b (ds ++ es) es (ls ++ ms) ms sits skips passes (fare_front f (y ∷ b) es ms h.seats) back.1 (fares_dealt x y ds es ls ms d back.0);
      free = λ k new.
          let off : (k == x.slot) ≡ false = differs_back x.slot k (new_at k x.slot (slots f) (slots b) (subst (λ ks. IsNew k ks) (slots_with x f b) new)) in
          let none = h.free k (subst (λ ks. IsNew k ks) (slots_same x y f b d.slot) new) in
          ((skips k off).0 ∙ none.0, (skips k off).1 ∙ none.1);
      gone = λ c below new.
          let away : (c.0 == x.conn.0) ≡ false = differs_back x.conn.0 c.0 (new_at c.0 x.conn.0 (ids f) (ids b) (subst (λ ks. IsNew c.0 ks) (ids_with x f b) new)) in
          let under : c.0 < p = omega arith in
          let none = h.gone c under (subst (λ ks. IsNew c.0 ks) (ids_same x y f b d.conn) new) in
          ((passes c away).0 ∙ none.0, (passes c away).1 ∙ none.1);
    }

-- a client leaves
holds_ended : (n p : ℕ) (x : ClientState) (f b : List ClientState) (ds es : List Entry) (ls ms : List Made) → n ≤ p → Sits n (f ++ x ∷ b) → Leaves x ds ls
    → Holds p (f ++ b) es ms → Holds n (f ++ x ∷ b) (ds ++ es) (ls ++ ms)
holds_ended n p x f b ds es ls ms up sits l h =
    let rest : List Entry = end_of x.slot l.is_ended ++ es in
    let all : ds ++ es ≡ l.before ++ rest = ap (λ r. r ++ es) l.entries_are ∙ append_assoc l.before (end_of x.slot l.is_ended) es in
    let skips : Skips x.slot (ds ++ es) es =
    subst (λ r. Skips x.slot r es) (sym all) (skips_both x.slot (l.before ++ rest) rest es (skips_on x.slot l.before rest l.on) (skips_end x.slot l.is_ended es)) in
    let passes : Passes x.conn.0 (ls ++ ms) ms = passes_on x.conn ls ms l.to in
    let free_slot : IsNew x.slot (slots (f ++ b)) = subst (λ ks. IsNew x.slot ks) (sym (slots_more f b)) (slot_is_new n x f b sits) in
    let no_id : IsNew x.conn.0 (ids (f ++ b)) = subst (λ ks. IsNew x.conn.0 ks) (sym (ids_more f b)) (id_is_new n x f b sits) in
    let given_id : x.conn.0 < n = id_is_below n x f b sits in
    let under_id : x.conn.0 < p = omega arith in
    let free_here = h.free x.slot free_slot in
    let gone_here = h.gone x.conn under_id no_id in
    record {
      account = account_same (ds ++ es) es (ls ++ ms) ms
          (ap (λ r. visits r) all ∙ visits_on x.slot l.before rest l.on ∙ visits_end x.slot l.is_ended es) (talks_on x.conn ls ms l.to) h.account;
      seats = fare_among n x f b (ds ++ es) es (ls ++ ms) ms sits skips passes (fare_front f b es ms h.seats) (fare_back f b es ms h.seats)
          (fares_left x ds es ls ms l free_here.0 free_here.1 gone_here.0 gone_here.1);
      free = λ k new.
          let apart : IsNew k (slots f ++ x.slot ∷ slots b) = subst (λ ks. IsNew k ks) (slots_with x f b) new in
          let off : (k == x.slot) ≡ false = differs_back x.slot k (new_at k x.slot (slots f) (slots b) apart) in
          let none = h.free k (subst (λ ks. IsNew k ks) (sym (slots_more f b)) (new_without k x.slot (slots f) (slots b) apart)) in
          ((skips k off).0 ∙ none.0, (skips k off).1 ∙ none.1);
      gone = λ c below new.
          let apart : IsNew c.0 (ids f ++ x.conn.0 ∷ ids b) = subst (λ ks. IsNew c.0 ks) (ids_with x f b) new in
          let away : (c.0 == x.conn.0) ≡ false = differs_back x.conn.0 c.0 (new_at c.0 x.conn.0 (ids f) (ids b) apart) in
          let under : c.0 < p = omega arith in
          let none = h.gone c under (subst (λ ks. IsNew c.0 ks) (sym (ids_more f b)) (new_without c.0 x.conn.0 (ids f) (ids b) apart)) in
          ((passes c away).0 ∙ none.0, (passes c away).1 ∙ none.1);
    }

-- a choice is nothing, if it is nothing or the rest is
if_nothing : (b : Bool) (xs : List ℕ) → (b ≡ false → xs ≡ []) → (if b then [] else xs) ≡ []
if_nothing true xs h = refl
if_nothing false xs h = h refl

-- nothing is read from a slot if a client connects, nor from another of which nothing comes
opened_nothing : (slot k : ℕ) (who : Identity) (es : List Entry) → ((slot == k) ≡ false → (read_from k es ≡ []) × (accepted_by k es ≡ []))
    → (read_from k (entry.Opened slot who ∷ es) ≡ []) × (accepted_by k (entry.Opened slot who ∷ es) ≡ [])
unfolding read_from accepted_by
opened_nothing slot k who es h = (if_nothing (slot == k) (read_from k es) (λ off. (h off).0), if_nothing (slot == k) (accepted_by k es) (λ off. (h off).1))

-- a piece that is the last one, whatever came before, is the last of the client
one_at : (slot : ℕ) (refused : List ℕ) (es : List Entry) → (refused ≡ []) ⊎ ((last : List ℕ) → refused ≡ last_read slot last es) → (refused ≡ []) ⊎ (refused ≡ last_read slot [] es)
one_at slot refused es (inl none) = inl none
one_at slot refused es (inr is) = inr (is [])

-- a client gets a connection
holds_opened : (n : ℕ) (s : List ClientState) (slot : ℕ) (who : Identity) (conn : ConnId) (es : List Entry) (ms : List Made) → Sits n s → IsFree slot s → conn.0 ≡ n
    → Holds (n + 1) (s ++ record { slot = slot; conn = conn; owed = [] } ∷ []) es ms
    → Holds n s (entry.Opened slot who ∷ es) (record { event = event.Open who; answer = answer.Opened conn } ∷ ms)
unfolding AllFare slots ids visits talks present AreTheirs
holds_opened n s slot who conn es ms sits free next h =
    let x : ClientState = record { slot = slot; conn = conn; owed = [] } in
    let ds : List Entry = entry.Opened slot who ∷ es in
    let ls : List Made = record { event = event.Open who; answer = answer.Opened conn } ∷ ms in
    let skips : Skips slot ds es = skips_opened slot who es in
    let passes : Passes conn.0 ls ms = passes_open conn.0 who (answer.Opened conn) ms in
    let off : IsNew slot (slots s) = new_if_free slot s free in
    let away : IsNew conn.0 (ids s) = subst (λ k. IsNew k (ids s)) (sym next) (next_is_new n s sits) in
    let mine : Fares x es ms = (fare_back s (x ∷ []) es ms h.seats).0 in
    let talk : Talk = record { identity = who; fed = fed_to conn ms; answered = answered_to conn ms; closed = closes conn ms } in
    record {
      account = record {
        given = Some talk ∷ h.account.given;
        all = ap (λ r. talk ∷ r) h.account.all;
        theirs = (
          record { identity = refl; refused = mine.refused; read = mine.read; one = one_at slot mine.refused es mine.one; only_closed = mine.only_closed; left = mine.left; accepted = mine.owed },
          h.account.theirs,
        );
      };
      seats = all_fare_beside slot conn.0 s ds es ls ms skips passes off away (fare_front s (x ∷ []) es ms h.seats);
      free = λ k new. opened_nothing slot k who es (λ differs. h.free k
          (subst (λ ks. IsNew k ks) (sym (slots_more s (x ∷ []))) (new_more k slot (slots s) new differs)));
      gone = λ c below new.
          let different : (c.0 == conn.0) ≡ false = less_differs c.0 conn.0 (omega arith) in
          let under : c.0 < n + 1 = omega arith in
          let none = h.gone c under (subst (λ ks. IsNew c.0 ks) (sym (ids_more s (x ∷ []))) (new_more c.0 conn.0 (ids s) new (differs_back c.0 conn.0 different))) in
          ((passes c different).0 ∙ none.0, (passes c different).1 ∙ none.1);
    }

-- the visit of a client that is ended at once
abbrev no_visit : Identity → Visit
no_visit who = record { identity = who; ended_at_once = true; read = []; last = []; accepted = [] }

-- a client that is ended at once is a visit, of which nothing is read or accepted
visits_at_once : (slot : ℕ) (who : Identity) (es : List Entry) → visits (entry.Opened slot who ∷ entry.Ended slot ∷ es) ≡ no_visit who ∷ visits es
unfolding visits read_from accepted_by last_read
visits_at_once slot who es = rw (eq-eqb slot slot refl)

-- from other slots no more is read or accepted
skips_at_once : (slot : ℕ) (who : Identity) (es : List Entry) → Skips slot (entry.Opened slot who ∷ entry.Ended slot ∷ es) es
skips_at_once slot who es =
    let rest : List Entry = entry.Ended slot ∷ es in
    skips_both slot (entry.Opened slot who ∷ rest) rest es (skips_opened slot who rest) (skips_end slot true es)

-- a client is ended at once
holds_at_once : (n p : ℕ) (s : List ClientState) (slot : ℕ) (who : Identity) (es : List Entry) (ls ms : List Made) → n ≤ p → Sits n s → IsFree slot s → Passes n ls ms
    → Account (entry.Opened slot who ∷ entry.Ended slot ∷ es) ls → Holds p s es ms → Holds n s (entry.Opened slot who ∷ entry.Ended slot ∷ es) ls
holds_at_once n p s slot who es ls ms up sits free passes account h =
    let ds : List Entry = entry.Opened slot who ∷ entry.Ended slot ∷ es in
    let skips : Skips slot ds es = skips_at_once slot who es in
    record {
      account = account;
      seats = all_fare_beside slot n s ds es ls ms skips passes (new_if_free slot s free) (next_is_new n s sits) h.seats;
      free = λ k new. opened_nothing slot k who (entry.Ended slot ∷ es) (λ differs.
          let skipped = skips_end slot true es k (differs_back slot k differs) in
          let none = h.free k new in
          (skipped.0 ∙ none.0, skipped.1 ∙ none.1));
      gone = λ c below new.
          let under : c.0 < p = omega arith in
          let none = h.gone c under new in
          let passed = passes c (less_differs c.0 n below) in
          (passed.0 ∙ none.0, passed.1 ∙ none.1);
    }

-- a client is rejected, as there were too many
account_shunned : (slot : ℕ) (who : Identity) (es : List Entry) (ms : List Made) → Account es ms
    → Account (entry.Opened slot who ∷ entry.Ended slot ∷ es) (record { event = event.Open who; answer = answer.TooMany } ∷ ms)
unfolding talks present AreTheirs
account_shunned slot who es ms a =
    let talk : Talk = record { identity = who; fed = []; answered = []; closed = false } in
    let given : List (Option Talk) = Some talk ∷ a.given in
    record {
      given = given;
      all = ap (λ r. talk ∷ r) a.all;
      theirs = subst (λ vs. AreTheirs vs given) (sym (visits_at_once slot who es))
          (record { identity = refl; refused = []; read = refl; one = inl refl; only_closed = λ h. refl; left = []; accepted = refl }, a.theirs);
    }

-- a client is dropped, as no memory could be allocated for it
account_lost : (slot : ℕ) (who : Identity) (es : List Entry) (ms : List Made) → Account es ms → Account (entry.Opened slot who ∷ entry.Ended slot ∷ es) ms
unfolding present AreTheirs
account_lost slot who es ms a =
    let given : List (Option Talk) = None ∷ a.given in
    record {
      given = given;
      all = a.all;
      theirs = subst (λ vs. AreTheirs vs given) (sym (visits_at_once slot who es)) (refl, a.theirs);
    }

-- the controller may have written
holds_turned : (n p : ℕ) (s : List ClientState) (x : Answer) (es : List Entry) (ms : List Made) → n ≤ p → Sits n s → Holds p s es ms
    → Holds n s es (record { event = event.Turn; answer = x } ∷ ms)
unfolding talks
holds_turned n p s x es ms up sits h =
    let ls : List Made = record { event = event.Turn; answer = x } ∷ ms in
    let passes : Passes n ls ms = passes_turn n x ms in
    record {
      account = account_same es es ls ms refl refl h.account;
      seats = all_fare_turned s x es ms h.seats;
      free = h.free;
      gone = λ c below new.
          let under : c.0 < p = omega arith in
          let none = h.gone c under new in
          let passed = passes c (less_differs c.0 n below) in
          (passed.0 ∙ none.0, passed.1 ∙ none.1);
    }

-- the account holds of all that acts do
holds : (acts : List Act) (m : Machine) (s t : List ClientState) → Sits m.next_id s → Follows s acts t → answers_of (made_in acts) ≡ answers m (events_of (made_in acts))
    → Holds m.next_id s (entries_in acts) (made_in acts)
unfolding entries_in made_in Follows answers
holds [] m s t sits follows told = holds_nothing m.next_id s
holds (opens slot who conn ∷ acts) m s t sits follows told =
    let u : List ClientState = follows.0 in
    let does = follows.1 in
    let es : List Entry = entries_in acts in
    let ms : List Made = made_in acts in
    let x : ClientState = record { slot = slot; conn = conn; owed = [] } in
    let p : Machine = (step m (event.Open who)).1 in
    let next = opened_next m who conn (sym (first_same (answer.Opened conn) (step m (event.Open who)).0 (answers_of ms) (answers p (events_of ms)) told)) in
    let seated : Sits p.next_id u =
    subst (λ v. Sits p.next_id v) (sym does.1) (subst (λ k. Sits k (s ++ x ∷ [])) (sym next.1) (sits_more m.next_id x s does.0 next.0 sits)) in
    let h : Holds p.next_id u es ms =
    holds acts p u t seated follows.2 (rest_same (answer.Opened conn) (step m (event.Open who)).0 (answers_of ms) (answers p (events_of ms)) told) in
    holds_opened m.next_id s slot who conn es ms sits does.0 next.0
    (subst (λ v. Holds (m.next_id + 1) v es ms) does.1 (subst (λ k. Holds k u es ms) next.1 h))
holds (rejects slot who ∷ acts) m s t sits follows told =
    let u : List ClientState = follows.0 in
    let does = follows.1 in
    let es : List Entry = entries_in acts in
    let ms : List Made = made_in acts in
    let p : Machine = (step m (event.Open who)).1 in
    let up : m.next_id ≤ p.next_id = grows_by m (event.Open who) in
    let seated : Sits p.next_id u = subst (λ v. Sits p.next_id v) (sym does.1) (sits_up m.next_id p.next_id s up sits) in
    let h : Holds p.next_id u es ms = holds acts p u t seated follows.2 (rest_same answer.TooMany (step m (event.Open who)).0 (answers_of ms) (answers p (events_of ms)) told) in
    holds_at_once m.next_id p.next_id s slot who es (record { event = event.Open who; answer = answer.TooMany } ∷ ms) ms up sits does.0
    (passes_open m.next_id who answer.TooMany ms) (account_shunned slot who es ms h.account) (subst (λ v. Holds p.next_id v es ms) does.1 h)
holds (drops slot who ∷ acts) m s t sits follows told =
    let u : List ClientState = follows.0 in
    let does = follows.1 in
    let es : List Entry = entries_in acts in
    let ms : List Made = made_in acts in
    let h : Holds m.next_id u es ms = holds acts m u t (subst (λ v. Sits m.next_id v) (sym does.1) sits) follows.2 told in
    holds_at_once m.next_id m.next_id s slot who es ms ms (omega arith) sits does.0 (passes_nothing m.next_id ms) (account_lost slot who es ms h.account)
    (subst (λ v. Holds m.next_id v es ms) does.1 h)
holds (serves x y ds ls ∷ acts) m s t sits follows told =
    let u : List ClientState = follows.0 in
    let does = follows.1 in
    let f : List ClientState = does.0 in
    let b : List ClientState = does.1 in
    let es : List Entry = entries_in acts in
    let ms : List Made = made_in acts in
    let p : Machine = after m (events_of ls) in
    let up : m.next_id ≤ p.next_id = grows m (events_of ls) in
    let seats : Sits m.next_id (f ++ x ∷ b) = subst (λ v. Sits m.next_id v) does.2 sits in
    let seated : Sits p.next_id u =
    subst (λ v. Sits p.next_id v) (sym does.3) (sits_up m.next_id p.next_id (f ++ y ∷ b) up (sits_served m.next_id x y f b does.4.slot does.4.conn seats)) in
    let h : Holds p.next_id u es ms = holds acts p u t seated follows.2 (told_later m ls ms told) in
    subst (λ v. Holds m.next_id v (ds ++ es) (ls ++ ms)) (sym does.2)
    (holds_served m.next_id p.next_id x y f b ds es ls ms up seats does.4 (subst (λ v. Holds p.next_id v es ms) does.3 h))
holds (ends x ds ls ∷ acts) m s t sits follows told =
    let u : List ClientState = follows.0 in
    let does = follows.1 in
    let f : List ClientState = does.0 in
    let b : List ClientState = does.1 in
    let es : List Entry = entries_in acts in
    let ms : List Made = made_in acts in
    let p : Machine = after m (events_of ls) in
    let up : m.next_id ≤ p.next_id = grows m (events_of ls) in
    let seats : Sits m.next_id (f ++ x ∷ b) = subst (λ v. Sits m.next_id v) does.2 sits in
    let seated : Sits p.next_id u =
    subst (λ v. Sits p.next_id v) (sym does.3) (sits_up m.next_id p.next_id (f ++ b) up (sits_left m.next_id x f b seats)) in
    let h : Holds p.next_id u es ms = holds acts p u t seated follows.2 (told_later m ls ms told) in
    subst (λ v. Holds m.next_id v (ds ++ es) (ls ++ ms)) (sym does.2)
    (holds_ended m.next_id p.next_id x f b ds es ls ms up seats does.4 (subst (λ v. Holds p.next_id v es ms) does.3 h))
holds (turns x ∷ acts) m s t sits follows told =
    let u : List ClientState = follows.0 in
    let es : List Entry = entries_in acts in
    let ms : List Made = made_in acts in
    let p : Machine = (step m event.Turn).1 in
    let up : m.next_id ≤ p.next_id = grows_by m event.Turn in
    let seated : Sits p.next_id u = subst (λ v. Sits p.next_id v) (sym follows.1) (sits_up m.next_id p.next_id s up sits) in
    let h : Holds p.next_id u es ms = holds acts p u t seated follows.2 (rest_same x (step m event.Turn).0 (answers_of ms) (answers p (events_of ms)) told) in
    holds_turned m.next_id p.next_id s x es ms up sits (subst (λ v. Holds p.next_id v es ms) follows.1 h)

-- each client's connection is its own: what was read from it was fed, and what it accepted was answered there
pub accounts : (m : Machine) (acts : List Act) (t : List ClientState) → Follows [] acts t → answers_of (made_in acts) ≡ answers m (events_of (made_in acts))
    → Account (entries_in acts) (made_in acts)
accounts m acts t follows told = (holds acts m [] t (nobody_sits m.next_id) follows told).account
