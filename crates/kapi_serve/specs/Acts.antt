-- What a server does at once, and which clients it has.
use Rattle.std.specs.Prelude.{◌≡◌, ◌⊎◌, ℕ, ◌==◌, Bool, true, false, List, [], ◌∷◌, ◌++◌, map}
use Rattle.kapi_core.specs.declared.event.Answer.{Answer}
use Rattle.kapi_core.specs.declared.event.Answer.TheVariants as answer
use Rattle.kapi_core.specs.declared.event.ConnId.{ConnId}
use Rattle.kapi_core.specs.declared.event.Event.{Event}
use Rattle.kapi_core.specs.declared.event.Event.TheVariants as event
use Rattle.kapi_model.specs.declared.identity.Identity.{Identity}
use Rattle.kapi_serve.specs.declared.port.Entry.{Entry}
use Rattle.kapi_serve.specs.declared.port.Entry.TheVariants as entry
use Rattle.kapi_serve.specs.Account.{Made, accepted_by, answered_to, closes, fed_to, read_from}

-- a client: its slot, its connection, and the bytes that it was answered and has not accepted
pub record ClientState : Type 0 where
  pub slot : ℕ
  pub conn : ConnId
  pub owed : List ℕ

-- no client is on the slot
unfoldable pub IsFree : ℕ → List ClientState → Type 0
IsFree slot [] = Unit {0}
IsFree slot (x ∷ xs) = ((x.slot == slot) ≡ false) × IsFree slot xs

-- the entries are of one slot, which stays its client's
unfoldable pub StayOn : ℕ → List Entry → Type 0
StayOn slot [] = Unit {0}
StayOn slot (entry.Opened s who ∷ rest) = ⊥
StayOn slot (entry.Gave s bytes ∷ rest) = (s ≡ slot) × StayOn slot rest
StayOn slot (entry.Took s bytes ∷ rest) = (s ≡ slot) × StayOn slot rest
StayOn slot (entry.Ended s ∷ rest) = ⊥

-- an event of a connection that there is
abbrev pub IsTo : ConnId → Event → Type 0
IsTo conn (event.Open who) = ⊥
IsTo conn (event.Feed c piece) = c ≡ conn
IsTo conn (event.Serve c) = c ≡ conn
IsTo conn (event.Pump c) = c ≡ conn
IsTo conn event.Turn = ⊥
IsTo conn (event.Close c) = c ≡ conn

-- the events are of one connection
unfoldable pub AreTo : ConnId → List Made → Type 0
AreTo conn [] = Unit {0}
AreTo conn (m ∷ rest) = IsTo conn m.event × AreTo conn rest

-- what was read from a client was fed to its connection, and what it accepted was owed to it first
pub record Exchange (x y : ClientState) (entries : List Entry) (made : List Made) : Type 0 where
  pub slot : y.slot ≡ x.slot
  pub conn : y.conn ≡ x.conn
  pub on : StayOn x.slot entries
  pub to : AreTo x.conn made
  pub read : read_from x.slot entries ≡ fed_to x.conn made
  pub owed : x.owed ++ answered_to x.conn made ≡ accepted_by x.slot entries ++ y.owed

-- the end of a slot, or nothing if it is opened again
abbrev pub end_of : ℕ → Bool → List Entry
end_of slot true = entry.Ended slot ∷ []
end_of slot false = []

-- a client's connection was closed; if a piece was not taken in, it is the last that was read, and the slot was ended
pub record Leaves (x : ClientState) (entries : List Entry) (made : List Made) : Type 0 where
  pub before : List Entry
  pub is_ended : Bool
  pub entries_are : entries ≡ before ++ end_of x.slot is_ended
  pub on : StayOn x.slot before
  pub to : AreTo x.conn made
  pub refused : List ℕ
  pub read : read_from x.slot before ≡ fed_to x.conn made ++ refused
  pub one : (refused ≡ []) ⊎ ((front : List Entry) × (before ≡ front ++ entry.Gave x.slot refused ∷ []) × (is_ended ≡ true))
  pub closed : closes x.conn made ≡ true
  pub left : List ℕ
  pub owed : x.owed ++ answered_to x.conn made ≡ accepted_by x.slot before ++ left

-- what a server does at once
pub data Act : Type 0 where
  -- a client gets a connection
  opens : ℕ → Identity → ConnId → Act
  -- a client is rejected, as there are too many connections
  rejects : ℕ → Identity → Act
  -- a client is dropped, as no memory can be allocated for it
  drops : ℕ → Identity → Act
  -- something is done for a client
  serves : ClientState → ClientState → List Entry → List Made → Act
  -- a client leaves
  ends : ClientState → List Entry → List Made → Act
  -- the controller may write
  turns : Answer → Act

-- what an act adds to the history of the ports
abbrev pub entries_of : Act → List Entry
entries_of (opens slot who conn) = entry.Opened slot who ∷ []
entries_of (rejects slot who) = entry.Opened slot who ∷ entry.Ended slot ∷ []
entries_of (drops slot who) = entry.Opened slot who ∷ entry.Ended slot ∷ []
entries_of (serves x y entries made) = entries
entries_of (ends x entries made) = entries
entries_of (turns answer) = []

-- the events that an act makes
abbrev pub made_of : Act → List Made
made_of (opens slot who conn) = record { event = event.Open who; answer = answer.Opened conn } ∷ []
made_of (rejects slot who) = record { event = event.Open who; answer = answer.TooMany } ∷ []
made_of (drops slot who) = []
made_of (serves x y entries made) = made
made_of (ends x entries made) = made
made_of (turns a) = record { event = event.Turn; answer = a } ∷ []

-- the clients after an act
abbrev pub Applies : List ClientState → Act → List ClientState → Type 0
Applies s (opens slot who conn) t = IsFree slot s × (t ≡ s ++ record { slot = slot; conn = conn; owed = [] } ∷ [])
Applies s (rejects slot who) t = IsFree slot s × (t ≡ s)
Applies s (drops slot who) t = IsFree slot s × (t ≡ s)
Applies s (serves x y entries made) t = (front : List ClientState) × (back : List ClientState) × (s ≡ front ++ x ∷ back) × (t ≡ front ++ y ∷ back) × Exchange x y entries made
Applies s (ends x entries made) t = (front : List ClientState) × (back : List ClientState) × (s ≡ front ++ x ∷ back) × (t ≡ front ++ back) × Leaves x entries made
Applies s (turns answer) t = t ≡ s

-- the history that acts add
unfoldable pub entries_in : List Act → List Entry
entries_in [] = []
entries_in (a ∷ rest) = entries_of a ++ entries_in rest

-- the events that acts make
unfoldable pub made_in : List Act → List Made
made_in [] = []
made_in (a ∷ rest) = made_of a ++ made_in rest

-- the clients after some acts
unfoldable pub Follows : List ClientState → List Act → List ClientState → Type 0
Follows s [] t = t ≡ s
Follows s (a ∷ rest) t = (u : List ClientState) × Applies s a u × Follows u rest t

-- the events without their answers
abbrev pub events_of : List Made → List Event
events_of made = map (λ m. m.event) made

-- the answers without their events
abbrev pub answers_of : List Made → List Answer
answers_of made = map (λ m. m.answer) made
