-- Round robin: the ports take turns, and so do the clients of each.
use Rattle.std.specs.Prelude.{◌≡◌, ◌⊎◌, ◌<◌, ◌≤◌, ℕ, Bool, ◌&&◌, true, false, List, Option, length}
use Rattle.std.specs.List.{HoldsAt}
use Rattle.kapi_serve.specs.Places.{is_by}
use Rattle.kapi_serve.specs.Private.Ready.{has_turn_next}
use Rattle.kapi_serve.specs.declared.port.PortEvent.{PortEvent}
use Rattle.kapi_serve.specs.declared.port.PortEvent.TheVariants as event
use Rattle.kapi_serve.specs.declared.stream.Stream.{Stream}

-- the client of a slot came by this listener, and has an event
abbrev pub is_due : ℕ → Option Stream → Bool
is_due listener place = is_by listener place && has_turn_next place

-- of the clients of a listener, none from one slot on and before another has an event
abbrev pub NoneIsDue : ℕ → List (Option Stream) → (from to : ℕ) → Type 0
NoneIsDue listener slots from to = (i : ℕ) → from ≤ i → i < to → i < length slots → HoldsAt (λ place. is_due listener place ≡ false) slots i

-- the first from a slot on that has an event
abbrev pub IsFirstDue : ℕ → List (Option Stream) → (from slot : ℕ) → Type 0
IsFirstDue listener slots from slot = (from ≤ slot) × HoldsAt (λ place. is_due listener place ≡ true) slots slot × NoneIsDue listener slots from slot

-- the clients of a listener take turns: next is the first from a slot on, or else the first of all
abbrev pub IsNextTurn : ℕ → List (Option Stream) → (from slot : ℕ) → Type 0
IsNextTurn listener slots from slot = IsFirstDue listener slots from slot ⊎ (NoneIsDue listener slots from (length slots) × IsFirstDue listener slots 0 slot)

-- no client of a listener has an event
abbrev pub IsIdle : ℕ → List (Option Stream) → Type 0
IsIdle listener slots = NoneIsDue listener slots 0 (length slots)

-- nor has one of any listener from one on and before another
abbrev pub AreIdle : (from to : ℕ) → List (Option Stream) → Type 0
AreIdle from to slots = (listener : ℕ) → from ≤ listener → listener < to → IsIdle listener slots

-- an event of a slot
abbrev pub IsOf : ℕ → PortEvent → Type 0
IsOf slot happened = (happened ≡ event.Writable slot) ⊎ (happened ≡ event.Readable slot)
