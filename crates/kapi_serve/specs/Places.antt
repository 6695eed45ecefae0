-- Who is let in if all places are taken, and who makes room.
use Rattle.std.specs.Prelude.{◌≡◌, ◌⊎◌, ◌<◌, ◌≤◌, ℕ, ◌==◌, Bool, true, false, List, Option, Some, None, is_some, filter, length, set}
use Rattle.std.specs.List.{HoldsAt, list_any}
use Rattle.kapi_serve.specs.declared.stream.Stream.{Stream}

-- the slot has a client that came by this listener
abbrev pub is_by : ℕ → Option Stream → Bool
is_by listener None = false
is_by listener (Some s) = s.listener == listener

-- how many clients came by a listener
abbrev pub count_by : ℕ → List (Option Stream) → ℕ
count_by listener slots = length (filter (λ place. is_by listener place) slots)

-- how many slots have a client
abbrev pub taken : List (Option Stream) → ℕ
taken slots = length (filter (λ place. is_some place) slots)

-- by none of the listeners came more clients
abbrev pub IsBusiest : (listeners listener : ℕ) → List (Option Stream) → Type 0
IsBusiest listeners listener slots = (other : ℕ) → other < listeners → count_by other slots ≤ count_by listener slots

-- the round in which the client of a slot last sent or took something
abbrev pub last_used : Option Stream → ℕ
last_used None = 0
last_used (Some s) = s.used

-- the client of a slot came by a listener, and no other that did has idled longer
abbrev pub IsIdlest : ℕ → List (Option Stream) → ℕ → Type 0
IsIdlest listener slots slot = HoldsAt (λ place. (is_by listener place ≡ true)
    × ((other : ℕ) → other < length slots → HoldsAt (λ its. is_by listener its ≡ true → last_used place ≤ last_used its) slots other)) slots slot

-- the client of a slot makes room for one that waits at a listener: more came by another, most of all, and of these it has idled longest
pub record IsDisplaced (listener listeners : ℕ) (slots : List (Option Stream)) (slot : ℕ) : Type 0 where
  pub busiest : ℕ
  pub most : IsBusiest listeners busiest slots
  pub more : count_by listener slots < count_by busiest slots
  pub idlest : IsIdlest busiest slots slot

-- the client of a slot is about to leave
abbrev pub is_leaving : Option Stream → Bool
is_leaving None = false
is_leaving (Some s) = s.leaving

-- a place is left, or no more clients came by another listener
abbrev pub IsLetIn : (listener listeners : ℕ) → List (Option Stream) → Type 0
IsLetIn listener listeners slots = (taken slots < 256) ⊎ IsBusiest listeners listener slots

-- a client was leaving already, or the one that makes room now does
abbrev pub MakesRoom : (listener listeners : ℕ) → List (Option Stream) → List (Option Stream) → Type 0
MakesRoom listener listeners old new = ((new ≡ old) × (list_any is_leaving old ≡ true))
    ⊎ ((slot : ℕ) × IsDisplaced listener listeners old slot × (slot < length new) × HoldsAt (λ place. is_leaving place ≡ true) new slot)
