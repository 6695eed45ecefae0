-- The order in which sockets are served.
use Rattle.std.specs.Prelude.{ℕ, Bool, ◌||◌, true, false, Option, Some, None}
use Rattle.mio.specs.Event.{is_error, is_read_closed, is_readable}
use Rattle.mio.specs.declared.event.event.Event.{Event}
use Rattle.kapi_serve.specs.declared.port.PortEvent.{PortEvent}
use Rattle.kapi_serve.specs.declared.port.PortEvent.TheVariants as event

-- the next event of a slot: writable comes before readable
abbrev pub turn_of : ℕ → (writable readable : Bool) → Option PortEvent
turn_of slot true readable = Some (event.Writable slot)
turn_of slot false true = Some (event.Readable slot)
turn_of slot false false = None

-- an event says that bytes may be read, or their end, or an error
abbrev pub may_be_read : Event → Bool
may_be_read e = is_readable e || (is_read_closed e || is_error e)
