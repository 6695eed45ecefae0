-- The limits of a store.
use Rattle.std.specs.Prelude.{ℕ}

-- a store keeps so many of the last changes
abbrev pub window_limit : ℕ
window_limit = 1024

-- no revision is above this one
abbrev pub last_revision : ℕ
last_revision = 281474976710655
