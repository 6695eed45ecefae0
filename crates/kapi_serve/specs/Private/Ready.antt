-- The streams that have a turn next.
use Rattle.std.specs.Prelude.{Bool, ◌||◌, false, Option, Some, None}
use Rattle.kapi_serve.specs.declared.stream.Stream.{Stream}

-- there is a stream in the slot, which has an event for its next turn
abbrev pub has_turn_next : Option Stream → Bool
has_turn_next None = false
has_turn_next (Some s) = s.writable || s.readable
