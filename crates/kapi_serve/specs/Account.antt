-- The account of a server: to which client each byte of its ports belongs, and what was made of it.
use Rattle.std.specs.Prelude.{◌≡◌, ◌⊎◌, ℕ, ◌==◌, Bool, true, false, ◌||◌, if◌then◌else◌, List, [], ◌∷◌, ◌++◌, Option, Some, None}
use Rattle.kapi_core.specs.declared.event.Answer.{Answer}
use Rattle.kapi_core.specs.declared.event.Answer.TheVariants as answer
use Rattle.kapi_core.specs.declared.event.ConnId.{ConnId}
use Rattle.kapi_core.specs.declared.event.Event.{Event}
use Rattle.kapi_core.specs.declared.event.Event.TheVariants as event
use Rattle.kapi_model.specs.declared.identity.Identity.{Identity}
use Rattle.kapi_serve.specs.declared.port.Entry.{Entry}
use Rattle.kapi_serve.specs.declared.port.Entry.TheVariants as entry

-- an event of the machine, and what it answered
pub record Made : Type 0 where
  pub event : Event
  pub answer : Answer

-- ---- what the ports gave and took

-- the bytes that were read from a slot until it is ended or opened again
unfoldable pub read_from : ℕ → List Entry → List ℕ
read_from slot [] = []
read_from slot (entry.Opened s who ∷ rest) = if s == slot then [] else read_from slot rest
read_from slot (entry.Gave s bytes ∷ rest) = if s == slot then bytes ++ read_from slot rest else read_from slot rest
read_from slot (entry.Took s bytes ∷ rest) = read_from slot rest
read_from slot (entry.Ended s ∷ rest) = if s == slot then [] else read_from slot rest

-- the last piece that was read from a slot before it is ended or opened again; `last` if none was read
unfoldable pub last_read : ℕ → List ℕ → List Entry → List ℕ
last_read slot last [] = last
last_read slot last (entry.Opened s who ∷ rest) = if s == slot then last else last_read slot last rest
last_read slot last (entry.Gave s bytes ∷ rest) = last_read slot (if s == slot then bytes else last) rest
last_read slot last (entry.Took s bytes ∷ rest) = last_read slot last rest
last_read slot last (entry.Ended s ∷ rest) = if s == slot then last else last_read slot last rest

-- the bytes that a slot accepted until it is ended or opened again
unfoldable pub accepted_by : ℕ → List Entry → List ℕ
accepted_by slot [] = []
accepted_by slot (entry.Opened s who ∷ rest) = if s == slot then [] else accepted_by slot rest
accepted_by slot (entry.Gave s bytes ∷ rest) = accepted_by slot rest
accepted_by slot (entry.Took s bytes ∷ rest) = if s == slot then bytes ++ accepted_by slot rest else accepted_by slot rest
accepted_by slot (entry.Ended s ∷ rest) = if s == slot then [] else accepted_by slot rest

-- whether a slot is ended next
abbrev pub is_ended_next : ℕ → List Entry → Bool
is_ended_next slot (entry.Ended s ∷ rest) = s == slot
is_ended_next slot _ = false

-- a client: its identity, whether its slot was ended at once, what was read from it, the last piece of that, and what
-- it accepted
pub record Visit : Type 0 where
  pub identity : Identity
  pub ended_at_once : Bool
  pub read : List ℕ
  pub last : List ℕ
  pub accepted : List ℕ

-- the clients that connected, in order
unfoldable pub visits : List Entry → List Visit
visits [] = []
visits (entry.Opened slot who ∷ rest) = record { identity = who; ended_at_once = is_ended_next slot rest; read = read_from slot rest; last = last_read slot [] rest; accepted = accepted_by slot rest } ∷ visits rest
visits (entry.Gave slot bytes ∷ rest) = visits rest
visits (entry.Took slot bytes ∷ rest) = visits rest
visits (entry.Ended slot ∷ rest) = visits rest

-- ---- what was made of the machine

-- what an event feeds to a connection, if it is taken in
abbrev pub fed_by : ConnId → Event → Answer → List ℕ
fed_by conn (event.Feed c piece) answer.Done = if c.0 == conn.0 then piece else []
fed_by conn _ _ = []

-- what an event answers to a connection
abbrev pub answered_by : ConnId → Event → Answer → List ℕ
answered_by conn (event.Serve c) (answer.Sent output) = if c.0 == conn.0 then output.bytes else []
answered_by conn (event.Pump c) (answer.Sent output) = if c.0 == conn.0 then output.bytes else []
answered_by conn _ _ = []

-- whether an event closes a connection
abbrev pub is_close_of : ConnId → Event → Bool
is_close_of conn (event.Close c) = c.0 == conn.0
is_close_of conn _ = false

-- the pieces that were fed to a connection, joined
unfoldable pub fed_to : ConnId → List Made → List ℕ
fed_to conn [] = []
fed_to conn (m ∷ rest) = fed_by conn m.event m.answer ++ fed_to conn rest

-- the bytes that were answered to a connection, joined
unfoldable pub answered_to : ConnId → List Made → List ℕ
answered_to conn [] = []
answered_to conn (m ∷ rest) = answered_by conn m.event m.answer ++ answered_to conn rest

-- whether a connection was closed
unfoldable pub closes : ConnId → List Made → Bool
closes conn [] = false
closes conn (m ∷ rest) = is_close_of conn m.event || closes conn rest

-- a connection that was asked for: its identity, what was fed to it, what was answered, and whether it was closed
pub record Talk : Type 0 where
  pub identity : Identity
  pub fed : List ℕ
  pub answered : List ℕ
  pub closed : Bool

-- what came of asking for a connection; nothing was fed or answered if there were too many connections
abbrev pub talk_of : Identity → Answer → List Made → Talk
talk_of who (answer.Opened conn) rest = record { identity = who; fed = fed_to conn rest; answered = answered_to conn rest; closed = closes conn rest }
talk_of who _ rest = record { identity = who; fed = []; answered = []; closed = false }

-- the connection that an event asks for
abbrev pub talk_if : Event → Answer → List Made → List Talk
talk_if (event.Open who) answer rest = talk_of who answer rest ∷ []
talk_if _ answer rest = []

-- the connections that were asked for, in order
unfoldable pub talks : List Made → List Talk
talks [] = []
talks (m ∷ rest) = talk_if m.event m.answer rest ++ talks rest

-- ---- the account

-- a client's connection is opened for its identity; what was read from the client was fed to the connection, but for
-- the last piece, if it did not take that in, which closes it; what the client accepted is a beginning of what was
-- answered
pub record Fits (v : Visit) (t : Talk) : Type 0 where
  pub identity : v.identity ≡ t.identity
  pub refused : List ℕ
  pub read : v.read ≡ t.fed ++ refused
  pub one : (refused ≡ []) ⊎ (refused ≡ v.last)
  pub only_closed : t.closed ≡ false → refused ≡ []
  pub left : List ℕ
  pub accepted : t.answered ≡ v.accepted ++ left

-- each client's connection is its own; a client whose entry ran out of memory has none, and its slot was ended at once,
-- so nothing was read from it
unfoldable pub AreTheirs : List Visit → List (Option Talk) → Type 0
AreTheirs [] [] = Unit {0}
AreTheirs [] (g ∷ gs) = ⊥
AreTheirs (v ∷ vs) [] = ⊥
AreTheirs (v ∷ vs) (None ∷ gs) = (v.ended_at_once ≡ true) × AreTheirs vs gs
AreTheirs (v ∷ vs) (Some t ∷ gs) = Fits v t × AreTheirs vs gs

-- the connections that there are
unfoldable pub present : List (Option Talk) → List Talk
present [] = []
present (None ∷ gs) = present gs
present (Some t ∷ gs) = t ∷ present gs

-- the connections that were asked for are the clients', in order
pub record Account (record_ : List Entry) (made : List Made) : Type 0 where
  pub given : List (Option Talk)
  pub all : present given ≡ talks made
  pub theirs : AreTheirs (visits record_) given
