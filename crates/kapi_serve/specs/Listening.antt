-- The ports that sockets listen on, and the identities of their clients.
use Rattle.std.specs.Prelude.{◌≡◌, ℕ, List, map, Option, Some}
use Rattle.kapi_aggregation.specs.Members.{Has}
use Rattle.kapi_model.specs.declared.identity.Identity.{Identity}
use Rattle.kapi_serve.specs.declared.port.PortEvent.{PortEvent}
use Rattle.kapi_serve.specs.declared.port.PortEvent.TheVariants as event
use Rattle.kapi_serve.specs.declared.listener.Listener.{Listener}

-- for each listener, in the order in which they began: the requested port, and the identity of its clients
abbrev pub doors : List Listener → List (ℕ × Identity)
doors listeners = map (λ l. (l.port, l.identity)) listeners

-- a client that has connected has the identity of one of the ports
abbrev pub CameByDoor : List Listener → Option PortEvent → Type 0
CameByDoor listeners happened = (slot : ℕ) (identity : Identity) → happened ≡ Some (event.Opened slot identity) → (port : ℕ) × Has (doors listeners) (port, identity)
