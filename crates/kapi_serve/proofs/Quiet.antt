-- Slots without an event.
use Rattle.std.proofs.Common.{◌≡◌, ℕ, List, Option, false}
use Rattle.std.specs.List.{HoldsAt}
use Rattle.kapi_serve.specs.Private.Ready.{has_turn_next}
use Rattle.kapi_serve.specs.declared.stream.Stream.{Stream}

-- the slot has no event
abbrev pub IsQuietAt : List (Option Stream) → ℕ → Type 0
IsQuietAt slots i = HoldsAt (λ place. has_turn_next place ≡ false) slots i
