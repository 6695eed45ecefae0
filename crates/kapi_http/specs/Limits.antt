-- The limits of what a connection may send.
use Rattle.std.specs.Prelude.{ℕ}

-- a head has at most so many bytes, empty lines before it and its blank line counted in
abbrev pub head_limit : ℕ
head_limit = 16384

-- a head has at most so many fields
abbrev pub field_limit : ℕ
field_limit = 64

-- a body has at most so many bytes
abbrev pub body_limit : ℕ
body_limit = 1048576

-- a body in chunks has at most so many bytes as sent, its size lines and line ends counted in
abbrev pub sent_limit : ℕ
sent_limit = 1572864

-- so many bytes that were not yet served are kept at most
abbrev pub kept_limit : ℕ
kept_limit = 2097152
