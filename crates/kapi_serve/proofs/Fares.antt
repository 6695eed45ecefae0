-- What comes of the ports belongs to its client.
use Rattle.std.proofs.Common.{◌≡◌, ℕ, ◌==◌, Bool, true, false, List, [], ◌∷◌, ◌++◌, refl, sym, ap, ◌∙◌, subst, append_assoc, inl, inr}
use Rattle.std.specs.Prelude.{◌⊎◌}
use Rattle.std.proofs.lemmas.List.{append-nil}
use Rattle.kapi_core.specs.declared.event.Answer.{Answer}
use Rattle.kapi_core.specs.declared.event.ConnId.{ConnId}
use Rattle.kapi_core.specs.declared.event.Event.TheVariants as event
use Rattle.kapi_model.specs.declared.identity.Identity.{Identity}
use Rattle.kapi_serve.specs.declared.port.Entry.{Entry}
use Rattle.kapi_serve.specs.declared.port.Entry.TheVariants as entry
use Rattle.kapi_serve.specs.Account.{Made, accepted_by, answered_to, closes, fed_to, last_read, read_from}
use Rattle.kapi_serve.specs.Acts.{AreTo, Exchange, Leaves, ClientState, StayOn, end_of}
use Rattle.kapi_serve.proofs.Flows.{accepted_end, accepted_end_off, accepted_off, accepted_on, answered_more, answered_off, closes_later, closes_still, differs_back, fed_more, fed_off, last_end, last_end_off, last_off, last_on, last_piece, read_end, read_end_off, read_off, read_on}
use Rattle.kapi_serve.proofs.Seats.{IsNew, Sits, id_is_new, ids, new_back, new_front, slot_is_new, slots}

-- ---- what passes by a client

-- nothing is read or accepted but on a slot
abbrev pub Skips : ℕ → List Entry → List Entry → Type 0
Skips slot ds es =
    (k : ℕ) → (k == slot) ≡ false → (read_from k ds ≡ read_from k es) × (accepted_by k ds ≡ accepted_by k es) × ((last : List ℕ) → last_read k last ds ≡ last_read k last es)

-- nothing is fed or answered but to a connection
abbrev pub Passes : ℕ → List Made → List Made → Type 0
Passes id ls ms =
    (c : ConnId) → (c.0 == id) ≡ false → (fed_to c ls ≡ fed_to c ms) × (answered_to c ls ≡ answered_to c ms) × (closes c ls ≡ false → closes c ms ≡ false)

-- entries of a slot, its end, and its opening
pub skips_on : (slot : ℕ) (es fs : List Entry) → StayOn slot es → Skips slot (es ++ fs) fs
skips_on slot es fs on = λ k off.
    let away = differs_back k slot off in
    (read_off slot k es fs away on, accepted_off slot k es fs away on, λ last. last_off slot k last es fs away on)

pub skips_end : (slot : ℕ) (b : Bool) (fs : List Entry) → Skips slot (end_of slot b ++ fs) fs
skips_end slot b fs = λ k off.
    let away = differs_back k slot off in
    (read_end_off slot k b fs away, accepted_end_off slot k b fs away, λ last. last_end_off slot k b last fs away)

pub skips_opened : (slot : ℕ) (who : Identity) (fs : List Entry) → Skips slot (entry.Opened slot who ∷ fs) fs
unfolding read_from accepted_by last_read
skips_opened slot who fs = λ k off. (rw (differs_back k slot off) refl, rw (differs_back k slot off) refl, λ last. rw (differs_back k slot off) refl)

pub skips_both : (slot : ℕ) (ds es fs : List Entry) → Skips slot ds es → Skips slot es fs → Skips slot ds fs
skips_both slot ds es fs one other = λ k off. ((one k off).0 ∙ (other k off).0, (one k off).1 ∙ (other k off).1, λ last. (one k off).2 last ∙ (other k off).2 last)

-- events of a connection, an opening, a turn
pub passes_on : (conn : ConnId) (ms ns : List Made) → AreTo conn ms → Passes conn.0 (ms ++ ns) ns
passes_on conn ms ns to = λ c off. (
  fed_more c ms ns ∙ ap (λ r. r ++ fed_to c ns) (fed_off conn c ms (differs_back c.0 conn.0 off) to),
  answered_more c ms ns ∙ ap (λ r. r ++ answered_to c ns) (answered_off conn c ms (differs_back c.0 conn.0 off) to),
  closes_later c ms ns,
)

pub passes_open : (id : ℕ) (who : Identity) (x : Answer) (ns : List Made) → Passes id (record { event = event.Open who; answer = x } ∷ ns) ns
unfolding fed_to answered_to closes
passes_open id who x ns = λ c off. (refl, refl, λ h. h)

pub passes_turn : (id : ℕ) (x : Answer) (ns : List Made) → Passes id (record { event = event.Turn; answer = x } ∷ ns) ns
unfolding fed_to answered_to closes
passes_turn id x ns = λ c off. (refl, refl, λ h. h)

pub passes_nothing : (id : ℕ) (ns : List Made) → Passes id ns ns
passes_nothing id ns = λ c off. (refl, refl, λ h. h)

-- ---- how clients fare

-- what is read from a client is fed to its connection, but for the last piece, if that closes it; what it accepts is
-- owed first
pub record Fares (x : ClientState) (es : List Entry) (ms : List Made) : Type 0 where
  pub refused : List ℕ
  pub read : read_from x.slot es ≡ fed_to x.conn ms ++ refused
  pub one : (refused ≡ []) ⊎ ((last : List ℕ) → refused ≡ last_read x.slot last es)
  pub only_closed : closes x.conn ms ≡ false → refused ≡ []
  pub left : List ℕ
  pub owed : x.owed ++ answered_to x.conn ms ≡ accepted_by x.slot es ++ left

-- all clients fare so: their bytes are fed and owed
unfoldable pub AllFare : List ClientState → List Entry → List Made → Type 0
AllFare [] es ms = Unit {0}
AllFare (x ∷ xs) es ms = Fares x es ms × AllFare xs es ms

-- a piece is the last one if the same is read last
one_by : (refused : List ℕ) (f : List ℕ → List Entry → List ℕ) (es ds : List Entry) → ((last : List ℕ) → f last es ≡ f last ds) → (refused ≡ []) ⊎ ((last : List ℕ) → refused ≡ f last es)
    → (refused ≡ []) ⊎ ((last : List ℕ) → refused ≡ f last ds)
one_by refused f es ds same (inl none) = inl none
one_by refused f es ds same (inr is) = inr (λ last. is last ∙ same last)

-- a client fares so if nothing comes
fares_nothing : (x : ClientState) → Fares x [] []
unfolding read_from accepted_by fed_to answered_to closes
fares_nothing x = record { refused = []; read = refl; one = inl refl; only_closed = λ h. refl; left = x.owed; owed = append-nil x.owed }

pub all_fare_nothing : (s : List ClientState) → AllFare s [] []
unfolding AllFare
all_fare_nothing [] = tt
all_fare_nothing (x ∷ s) = (fares_nothing x, all_fare_nothing s)

-- what belongs to another client leaves this one as it was
fares_beside : (slot id : ℕ) (x : ClientState) (ds es : List Entry) (ls ms : List Made) → Skips slot ds es → Passes id ls ms
    → (x.slot == slot) ≡ false → (x.conn.0 == id) ≡ false → Fares x es ms → Fares x ds ls
fares_beside slot id x ds es ls ms skips passes off away f =
    let skipped = skips x.slot off in
    let passed = passes x.conn away in
    record {
      refused = f.refused;
      read = skipped.0 ∙ f.read ∙ ap (λ r. r ++ f.refused) (sym passed.0);
      one = one_by f.refused (last_read x.slot) es ds (λ last. sym (skipped.2 last)) f.one;
      only_closed = λ h. f.only_closed (passed.2 h);
      left = f.left;
      owed = ap (λ r. x.owed ++ r) passed.1 ∙ f.owed ∙ ap (λ r. r ++ f.left) (sym skipped.1);
    }

pub all_fare_beside : (slot id : ℕ) (s : List ClientState) (ds es : List Entry) (ls ms : List Made) → Skips slot ds es → Passes id ls ms
    → IsNew slot (slots s) → IsNew id (ids s) → AllFare s es ms → AllFare s ds ls
unfolding AllFare IsNew slots ids
all_fare_beside slot id [] ds es ls ms skips passes off away f = tt
all_fare_beside slot id (x ∷ s) ds es ls ms skips passes off away f =
    (fares_beside slot id x ds es ls ms skips passes off.0 away.0 f.0, all_fare_beside slot id s ds es ls ms skips passes off.1 away.1 f.1)

-- the clients of lists that are joined fare so
pub fare_front : (s t : List ClientState) (es : List Entry) (ms : List Made) → AllFare (s ++ t) es ms → AllFare s es ms
unfolding AllFare
fare_front [] t es ms f = tt
fare_front (x ∷ s) t es ms f = (f.0, fare_front s t es ms f.1)

pub fare_back : (s t : List ClientState) (es : List Entry) (ms : List Made) → AllFare (s ++ t) es ms → AllFare t es ms
unfolding AllFare
fare_back [] t es ms f = f
fare_back (x ∷ s) t es ms f = fare_back s t es ms f.1

fare_both : (s t : List ClientState) (es : List Entry) (ms : List Made) → AllFare s es ms → AllFare t es ms → AllFare (s ++ t) es ms
unfolding AllFare
fare_both [] t es ms f g = g
fare_both (x ∷ s) t es ms f g = (f.0, fare_both s t es ms f.1 g)

-- one client among others, whom all passes by
pub fare_among : (n : ℕ) (x : ClientState) (f b : List ClientState) (ds es : List Entry) (ls ms : List Made) → Sits n (f ++ x ∷ b) → Skips x.slot ds es → Passes x.conn.0 ls ms
    → AllFare f es ms → AllFare b es ms → Fares x ds ls → AllFare (f ++ x ∷ b) ds ls
unfolding AllFare
fare_among n x f b ds es ls ms sits skips passes front back here =
    let off = slot_is_new n x f b sits in
    let away = id_is_new n x f b sits in
    fare_both f (x ∷ b) ds ls
    (all_fare_beside x.slot x.conn.0 f ds es ls ms skips passes (new_front x.slot (slots f) (slots b) off) (new_front x.conn.0 (ids f) (ids b) away) front)
    (here, all_fare_beside x.slot x.conn.0 b ds es ls ms skips passes (new_back x.slot (slots f) (slots b) off) (new_back x.conn.0 (ids f) (ids b) away) back)

-- what is read last behind entries of the slot is read last
one_later : (slot k : ℕ) (refused : List ℕ) (ds es : List Entry) → k ≡ slot → StayOn slot ds → (refused ≡ []) ⊎ ((last : List ℕ) → refused ≡ last_read k last es)
    → (refused ≡ []) ⊎ ((last : List ℕ) → refused ≡ last_read slot last (ds ++ es))
one_later slot k refused ds es same on (inl none) = inl none
one_later slot k refused ds es same on (inr is) =
    inr (λ last. is (last_read slot last ds) ∙ ap (λ s. last_read s (last_read slot last ds) es) same ∙ sym (last_on slot last ds es on))

-- the piece that was not taken in is the last one before the end of the slot
one_left : (slot : ℕ) (refused : List ℕ) (before rest es : List Entry) (ended : Bool) → StayOn slot before → rest ≡ before ++ (end_of slot ended ++ es)
    → (refused ≡ []) ⊎ ((front : List Entry) × (before ≡ front ++ entry.Gave slot refused ∷ []) × (ended ≡ true)) → (refused ≡ []) ⊎ ((last : List ℕ) → refused ≡ last_read slot last rest)
one_left slot refused before rest es ended on are (inl none) = inl none
one_left slot refused before rest es ended on are (inr last_one) = inr (λ last.
    let own : last_read slot last before ≡ refused =
    ap (λ r. last_read slot last r) last_one.1 ∙ last_piece slot last last_one.0 refused (subst (λ r. StayOn slot r) last_one.1 on) in
    sym (ap (λ r. last_read slot last r) are ∙ last_on slot last before (end_of slot ended ++ es) on ∙ last_end slot ended (last_read slot last before) es last_one.2 ∙ own))

-- a client for whom something is done
pub fares_dealt : (x y : ClientState) (ds es : List Entry) (ls ms : List Made) → Exchange x y ds ls → Fares y es ms → Fares x (ds ++ es) (ls ++ ms)
fares_dealt x y ds es ls ms d f =
    let read : read_from x.slot es ≡ fed_to x.conn ms ++ f.refused =
    ap (λ k. read_from k es) (sym d.slot) ∙ f.read ∙ ap (λ c. fed_to c ms ++ f.refused) d.conn in
    let owed : y.owed ++ answered_to x.conn ms ≡ accepted_by x.slot es ++ f.left =
    ap (λ c. y.owed ++ answered_to c ms) (sym d.conn) ∙ f.owed ∙ ap (λ k. accepted_by k es ++ f.left) d.slot in
    record {
      refused = f.refused;
      read = read_on x.slot ds es d.on ∙ (λ j. d.read j ++ read j) ∙ sym (append_assoc (fed_to x.conn ls) (fed_to x.conn ms) f.refused)
          ∙ ap (λ r. r ++ f.refused) (sym (fed_more x.conn ls ms));
      one = one_later x.slot y.slot f.refused ds es d.slot d.on f.one;
      only_closed = λ h. f.only_closed (ap (λ c. closes c ms) d.conn ∙ closes_later x.conn ls ms h);
      left = f.left;
      owed = ap (λ r. x.owed ++ r) (answered_more x.conn ls ms) ∙ sym (append_assoc x.owed (answered_to x.conn ls) (answered_to x.conn ms))
          ∙ ap (λ r. r ++ answered_to x.conn ms) d.owed ∙ append_assoc (accepted_by x.slot ds) y.owed (answered_to x.conn ms)
          ∙ ap (λ r. accepted_by x.slot ds ++ r) owed ∙ sym (append_assoc (accepted_by x.slot ds) (accepted_by x.slot es) f.left)
          ∙ ap (λ r. r ++ f.left) (sym (accepted_on x.slot ds es d.on));
    }

-- a client that leaves
pub fares_left : (x : ClientState) (ds es : List Entry) (ls ms : List Made) → Leaves x ds ls → read_from x.slot es ≡ [] → accepted_by x.slot es ≡ []
    → fed_to x.conn ms ≡ [] → answered_to x.conn ms ≡ [] → Fares x (ds ++ es) (ls ++ ms)
fares_left x ds es ls ms l unread unaccepted unfed unanswered =
    let rest : List Entry = end_of x.slot l.is_ended ++ es in
    let all : ds ++ es ≡ l.before ++ rest = ap (λ r. r ++ es) l.entries_are ∙ append_assoc l.before (end_of x.slot l.is_ended) es in
    let fed : fed_to x.conn (ls ++ ms) ≡ fed_to x.conn ls = fed_more x.conn ls ms ∙ ap (λ r. fed_to x.conn ls ++ r) unfed ∙ append-nil (fed_to x.conn ls) in
    let answered : answered_to x.conn (ls ++ ms) ≡ answered_to x.conn ls =
    answered_more x.conn ls ms ∙ ap (λ r. answered_to x.conn ls ++ r) unanswered ∙ append-nil (answered_to x.conn ls) in
    let read : read_from x.slot (ds ++ es) ≡ read_from x.slot l.before =
    ap (λ r. read_from x.slot r) all ∙ read_on x.slot l.before rest l.on ∙ ap (λ r. read_from x.slot l.before ++ r) (read_end x.slot l.is_ended es unread)
    ∙ append-nil (read_from x.slot l.before) in
    let accepted : accepted_by x.slot (ds ++ es) ≡ accepted_by x.slot l.before =
    ap (λ r. accepted_by x.slot r) all ∙ accepted_on x.slot l.before rest l.on
    ∙ ap (λ r. accepted_by x.slot l.before ++ r) (accepted_end x.slot l.is_ended es unaccepted) ∙ append-nil (accepted_by x.slot l.before) in
    let closed : closes x.conn (ls ++ ms) ≡ true = closes_still x.conn ls ms l.closed in
    record {
      refused = l.refused;
      read = read ∙ l.read ∙ ap (λ r. r ++ l.refused) (sym fed);
      one = one_left x.slot l.refused l.before (ds ++ es) es l.is_ended l.on all l.one;
      only_closed = λ h. absurd (cc);
      left = l.left;
      owed = ap (λ r. x.owed ++ r) answered ∙ l.owed ∙ ap (λ r. r ++ l.left) (sym accepted);
    }

-- a turn belongs to no client
pub all_fare_turned : (s : List ClientState) (x : Answer) (es : List Entry) (ms : List Made) → AllFare s es ms → AllFare s es (record { event = event.Turn; answer = x } ∷ ms)
unfolding AllFare fed_to answered_to closes
all_fare_turned [] x es ms f = tt
all_fare_turned (z ∷ s) x es ms f =
    (record { refused = f.0.refused; read = f.0.read; one = f.0.one; only_closed = f.0.only_closed; left = f.0.left; owed = f.0.owed }, all_fare_turned s x es ms f.1)
