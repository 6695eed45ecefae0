-- What ports report, and what their calls add to it.
use Rattle.std.specs.Prelude.{◌≡◌, ℕ, List, [], ◌∷◌, ◌++◌, take, Option, Some, Result, Ok, Err}
use Rattle.kapi_serve.specs.declared.port.Entry.{Entry}
use Rattle.kapi_serve.specs.declared.port.Entry.TheVariants as entry
use Rattle.kapi_serve.specs.declared.port.PortEvent.{PortEvent}
use Rattle.kapi_serve.specs.declared.port.PortEvent.TheVariants as event
use Rattle.kapi_serve.specs.declared.port.PortFault.{PortFault}

-- what the calls on ports read and wrote so far, and evidence that all of them reported it, if they did
pub record Report : Type 1 where
  pub tells : Type 0
  pub history : List Entry

-- ports of which no call is reported
abbrev pub untold : Report
untold = record { tells = ⊥; history = [] }

-- if this call is reported, so are all calls before it, and the entries were appended to the history
abbrev pub Adds : Report → Report → List Entry → Type 0
Adds old new entries = new.tells → old.tells × (new.history ≡ old.history ++ entries)

-- a client that has connected
abbrev pub opened : Option PortEvent → List Entry
opened (Some (event.Opened slot identity)) = entry.Opened slot identity ∷ []
opened _ = []

-- the bytes that a read returned
abbrev pub gave : ℕ → List ℕ → Result ℕ PortFault → List Entry
gave slot bytes (Ok n) = entry.Gave slot (take n bytes) ∷ []
gave slot bytes (Err fault) = []

-- the bytes that a write took
abbrev pub took : ℕ → List ℕ → Result ℕ PortFault → List Entry
took slot bytes (Ok n) = entry.Took slot (take n bytes) ∷ []
took slot bytes (Err fault) = []
