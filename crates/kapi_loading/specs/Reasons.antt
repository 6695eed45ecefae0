-- A reason is one line of text.
use Rattle.std.specs.Prelude.{ℕ, ◌==◌, nat_le, Bool, not, ◌&&◌, List, length}
use Rattle.std.specs.List.{list_all}

-- no control character of ASCII
abbrev pub is_shown : ℕ → Bool
is_shown b = nat_le 32 b && not (b == 127)

-- a text that is not empty and has no control character
abbrev pub is_reason : List ℕ → Bool
is_reason text = not (length text == 0) && list_all is_shown text
