-- The clients of a server, as its account reports them.
use Rattle.std.specs.Prelude.{ℕ, ◌==◌, not, false, List, [], ◌∷◌, if◌then◌else◌, map}
use Rattle.std.specs.List.{filter}
use Rattle.kapi_serve.specs.declared.client.Client.{Client}
use Rattle.kapi_serve.specs.Acts.{ClientState}
use Rattle.kapi_serve.specs.Private.Pieces.{owed}

-- a client's slot, connection and pending bytes
abbrev pub seat_of : Client → ClientState
seat_of c = record { slot = c.slot; conn = c.id; owed = owed c.pending }

-- the slots, connections and pending bytes of all clients
abbrev pub seats_of : List Client → List ClientState
seats_of clients = map seat_of clients

-- the clients on other slots
abbrev pub others : ℕ → List ClientState → List ClientState
others slot seats = filter (λ x. not (x.slot == slot)) seats

-- a client whose slot may take bytes
abbrev pub freed : Client → Client
freed c = record c { blocked = false }

-- the clients after the first one on a slot may be sent bytes again
abbrev pub freed_on : ℕ → List Client → List Client
freed_on slot [] = []
freed_on slot (c ∷ cs) = if c.slot == slot then freed c ∷ cs else c ∷ freed_on slot cs
