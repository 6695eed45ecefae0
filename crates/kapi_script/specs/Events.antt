-- The lines of a script, and the events that they are.
use Rattle.std.specs.Prelude.{ℕ, ◌==◌, nat_lt, nat_le, ◌&&◌, if◌then◌else◌, List, length, take, drop, codes, Option, Some, None}
use Rattle.std.specs.Char.{is_ascii_digit}
use Rattle.std.specs.List.{list_all, position}
use Rattle.std.specs.Option.{option_map}
use Rattle.std.specs.Str.{bytes_eq}
use Rattle.std.specs.Str.Parse.{digits_value}
use Rattle.kapi_core.specs.declared.event.ConnId.{ConnId}
use Rattle.kapi_core.specs.declared.event.Event.{Event}
use Rattle.kapi_core.specs.declared.event.Event.TheVariants as event
use Rattle.kapi_lines.specs.Escapes.{unescaped}
use Rattle.kapi_lines.specs.Identities.{named_identity}
use Rattle.kapi_lines.specs.Words.{begins}

-- a connection of an identity that is named
unfoldable pub open_event : List ℕ → Option Event
open_event s = option_map (λ identity. event.Open identity) (named_identity s)

-- the number of a connection: 1 to 18 decimal digits
unfoldable pub connection : List ℕ → Option ConnId
connection s =
    if nat_lt 0 (length s) && (nat_le (length s) 18 && list_all is_ascii_digit s) then Some (record { 0 = digits_value 10 s }) else None

-- the bytes of a text come in on a connection, if both are right
abbrev pub fed : Option ConnId → Option (List ℕ) → Option Event
fed None piece = None
fed (Some conn) piece = option_map (λ bytes. event.Feed conn bytes) piece

-- `N TEXT`, parted at the first space
abbrev pub feed_at : List ℕ → Option ℕ → Option Event
feed_at s None = None
feed_at s (Some at) = fed (connection (take at s)) (unescaped (drop 1 (drop at s)))

-- the event of a line that feeds
unfoldable pub feed_event : List ℕ → Option Event
feed_event s = feed_at s (position (λ b. b == 32) s)

-- the event of a line; none if it has no known form
unfoldable pub line_event : List ℕ → Option Event
line_event s =
    if begins s (codes "open ") then open_event (drop 5 s)
    else (if begins s (codes "feed ") then feed_event (drop 5 s)
    else (if begins s (codes "serve ") then option_map (λ conn. event.Serve conn) (connection (drop 6 s))
    else (if begins s (codes "pump ") then option_map (λ conn. event.Pump conn) (connection (drop 5 s))
    else (if begins s (codes "close ") then option_map (λ conn. event.Close conn) (connection (drop 6 s))
    else (if bytes_eq s (codes "turn") then Some event.Turn else None)))))
