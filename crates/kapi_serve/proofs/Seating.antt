-- What is done for one client, and its place among the others.
use Rattle.std.proofs.Common.{◌≡◌, ℕ, ◌==◌, true, false, ◌||◌, if◌then◌else◌, List, [], ◌∷◌, ◌++◌, refl, sym, ap, ◌∙◌, inl, inr}
use Rattle.std.proofs.lemmas.List.{append-nil}
use Rattle.std.proofs.lemmas.Bool.{eq-eqb}
use Rattle.kapi_core.specs.declared.event.Answer.TheVariants as answer
use Rattle.kapi_core.specs.declared.event.ConnId.{ConnId}
use Rattle.kapi_core.specs.declared.event.Event.TheVariants as event
use Rattle.kapi_core.specs.declared.event.Output.{Output}
use Rattle.kapi_serve.specs.Account.{accepted_by, answered_to, closes, fed_to, read_from}
use Rattle.kapi_serve.specs.Acts.{AreTo, Exchange, Leaves, ClientState, StayOn}
use Rattle.kapi_serve.specs.declared.port.Entry.TheVariants as entry

-- a number is itself
same : (n : ℕ) → (n == n) ≡ true
same n = eq-eqb n n refl

-- the choice of a slot or connection that is the client's own
chosen : (n : ℕ) (xs ys : List ℕ) → (if n == n then xs else ys) ≡ xs
chosen n xs ys = ap (λ b. if b then xs else ys) (same n)

-- ---- what is done

-- a client accepted bytes
pub deals_took : (x y : ClientState) (bytes : List ℕ) → y.slot ≡ x.slot → y.conn ≡ x.conn → x.owed ≡ bytes ++ y.owed → Exchange x y (entry.Took x.slot bytes ∷ []) []
unfolding read_from accepted_by fed_to answered_to StayOn AreTo
deals_took x y bytes slot conn owed = record {
  slot = slot;
  conn = conn;
  on = (refl, tt);
  to = tt;
  read = refl;
  owed = append-nil x.owed ∙ owed ∙ ap (λ xs. xs ++ y.owed) (sym (chosen x.slot (bytes ++ []) [] ∙ append-nil bytes));
}

-- a piece was read and fed
pub deals_fed : (x : ClientState) (piece : List ℕ) → Exchange x x (entry.Gave x.slot piece ∷ []) (record { event = event.Feed x.conn piece; answer = answer.Done } ∷ [])
unfolding read_from accepted_by fed_to answered_to StayOn AreTo
deals_fed x piece = record {
  slot = refl;
  conn = refl;
  on = (refl, tt);
  to = (refl, tt);
  read = chosen x.slot (piece ++ []) [] ∙ ap (λ xs. xs ++ []) (sym (chosen x.conn.0 piece []));
  owed = append-nil x.owed;
}

-- the end of a client's bytes was read
pub deals_end : (x : ClientState) → Exchange x x (entry.Gave x.slot [] ∷ []) []
unfolding read_from accepted_by fed_to answered_to StayOn AreTo
deals_end x = record {
  slot = refl;
  conn = refl;
  on = (refl, tt);
  to = tt;
  read = chosen x.slot [] [];
  owed = append-nil x.owed;
}

-- a client is answered
pub deals_served : (x y : ClientState) (output : Output) → y.slot ≡ x.slot → y.conn ≡ x.conn → y.owed ≡ x.owed ++ output.bytes
    → Exchange x y [] (record { event = event.Serve x.conn; answer = answer.Sent output } ∷ [])
unfolding read_from accepted_by fed_to answered_to StayOn AreTo
deals_served x y output slot conn owed = record {
  slot = slot;
  conn = conn;
  on = tt;
  to = (refl, tt);
  read = refl;
  owed = ap (λ xs. x.owed ++ xs) (append-nil _ ∙ chosen x.conn.0 output.bytes []) ∙ sym owed;
}

-- a client is shown an event
pub deals_shown : (x y : ClientState) (output : Output) → y.slot ≡ x.slot → y.conn ≡ x.conn → y.owed ≡ x.owed ++ output.bytes
    → Exchange x y [] (record { event = event.Pump x.conn; answer = answer.Sent output } ∷ [])
unfolding read_from accepted_by fed_to answered_to StayOn AreTo
deals_shown x y output slot conn owed = record {
  slot = slot;
  conn = conn;
  on = tt;
  to = (refl, tt);
  read = refl;
  owed = ap (λ xs. x.owed ++ xs) (append-nil _ ∙ chosen x.conn.0 output.bytes []) ∙ sym owed;
}

-- there is no request of the client
pub deals_unserved : (x : ClientState) → Exchange x x [] (record { event = event.Serve x.conn; answer = answer.Nothing } ∷ [])
unfolding read_from accepted_by fed_to answered_to StayOn AreTo
deals_unserved x = record { slot = refl; conn = refl; on = tt; to = (refl, tt); read = refl; owed = append-nil x.owed }

-- there is no event for the client
pub deals_unshown : (x : ClientState) → Exchange x x [] (record { event = event.Pump x.conn; answer = answer.Nothing } ∷ [])
unfolding read_from accepted_by fed_to answered_to StayOn AreTo
deals_unshown x = record { slot = refl; conn = refl; on = tt; to = (refl, tt); read = refl; owed = append-nil x.owed }

-- a client's connection is closed, and what is pending is sent
pub deals_closed : (x y : ClientState) → y ≡ x → Exchange x y [] (record { event = event.Close x.conn; answer = answer.Done } ∷ [])
unfolding read_from accepted_by fed_to answered_to StayOn AreTo
deals_closed x y is = record {
  slot = ap (λ z. z.slot) is;
  conn = ap (λ z. z.conn) is;
  on = tt;
  to = (refl, tt);
  read = refl;
  owed = append-nil x.owed ∙ ap (λ z. z.owed) (sym is);
}

-- ---- how a client leaves

-- a client's connection is closed
closed_one : (conn : ConnId) → closes conn (record { event = event.Close conn; answer = answer.Done } ∷ []) ≡ true
unfolding closes
closed_one conn = ap (λ b. b || false) (same conn.0)

-- a client's slot is ended
pub leaves_ended : (x : ClientState) → Leaves x (entry.Ended x.slot ∷ []) (record { event = event.Close x.conn; answer = answer.Done } ∷ [])
unfolding read_from accepted_by fed_to answered_to StayOn AreTo
leaves_ended x = record {
  before = [];
  is_ended = true;
  entries_are = refl;
  on = tt;
  to = (refl, tt);
  refused = [];
  read = refl;
  one = inl refl;
  closed = closed_one x.conn;
  left = x.owed;
  owed = append-nil x.owed;
}

-- a client's slot is opened again
pub leaves_forgotten : (x : ClientState) → Leaves x [] (record { event = event.Close x.conn; answer = answer.Done } ∷ [])
unfolding read_from accepted_by fed_to answered_to StayOn AreTo
leaves_forgotten x = record {
  before = [];
  is_ended = false;
  entries_are = refl;
  on = tt;
  to = (refl, tt);
  refused = [];
  read = refl;
  one = inl refl;
  closed = closed_one x.conn;
  left = x.owed;
  owed = append-nil x.owed;
}

-- a piece of a client is not taken in, since an allocation fails
pub leaves_starved : (x : ClientState) (piece : List ℕ) → Leaves x (entry.Gave x.slot piece ∷ entry.Ended x.slot ∷ []) (record { event = event.Close x.conn; answer = answer.Done } ∷ [])
unfolding read_from accepted_by fed_to answered_to StayOn AreTo
leaves_starved x piece = record {
  before = entry.Gave x.slot piece ∷ [];
  is_ended = true;
  entries_are = refl;
  on = (refl, tt);
  to = (refl, tt);
  refused = piece;
  read = chosen x.slot (piece ++ []) [] ∙ append-nil piece;
  one = inr ([], refl, refl);
  closed = closed_one x.conn;
  left = x.owed;
  owed = append-nil x.owed;
}

-- a piece of a client is too long for its connection
pub leaves_full : (x : ClientState) (piece : List ℕ)
    → Leaves x (entry.Gave x.slot piece ∷ entry.Ended x.slot ∷ []) (record { event = event.Feed x.conn piece; answer = answer.Full } ∷ record { event = event.Close x.conn; answer = answer.Done } ∷ [])
unfolding read_from accepted_by fed_to answered_to closes StayOn AreTo
leaves_full x piece = record {
  before = entry.Gave x.slot piece ∷ [];
  is_ended = true;
  entries_are = refl;
  on = (refl, tt);
  to = (refl, (refl, tt));
  refused = piece;
  read = chosen x.slot (piece ++ []) [] ∙ append-nil piece;
  one = inr ([], refl, refl);
  closed = closed_one x.conn;
  left = x.owed;
  owed = append-nil x.owed;
}

-- a client's connection has ended before a piece
pub leaves_late : (x : ClientState) (piece : List ℕ)
    → Leaves x (entry.Gave x.slot piece ∷ entry.Ended x.slot ∷ []) (record { event = event.Feed x.conn piece; answer = answer.Ended } ∷ record { event = event.Close x.conn; answer = answer.Done } ∷ [])
unfolding read_from accepted_by fed_to answered_to closes StayOn AreTo
leaves_late x piece = record {
  before = entry.Gave x.slot piece ∷ [];
  is_ended = true;
  entries_are = refl;
  on = (refl, tt);
  to = (refl, (refl, tt));
  refused = piece;
  read = chosen x.slot (piece ++ []) [] ∙ append-nil piece;
  one = inr ([], refl, refl);
  closed = closed_one x.conn;
  left = x.owed;
  owed = append-nil x.owed;
}
