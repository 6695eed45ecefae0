-- The limits of the machine.
use Rattle.std.specs.Prelude.{ℕ}

-- so many connections are open at a time at most
abbrev pub open_connections : ℕ
open_connections = 256

-- no connection has a number above this one, which has 18 digits
abbrev pub last_connection : ℕ
last_connection = 999999999999999999

-- revisions begin after this one at the latest
abbrev pub last_first : ℕ
last_first = 281474976710650

-- so many bytes of a connection are kept unserved at most
abbrev pub kept_limit : ℕ
kept_limit = 2097152
