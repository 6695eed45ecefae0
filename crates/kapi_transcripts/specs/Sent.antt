-- What the line of an answer says was sent.
use Rattle.std.specs.Prelude.{ℕ, nat_eq, if◌then◌else◌, List, [], ◌∷◌, drop, codes, Option, Some, None}
use Rattle.std.specs.List.{starts_with}
use Rattle.kapi_lines.specs.Escapes.{unescaped}
use Rattle.kapi_lines.specs.Words.{begins}

-- the bytes behind `out` or `last`
abbrev pub sent_of : List ℕ → Option (List ℕ)
sent_of line =
    if begins line (codes "out ") then unescaped (drop 4 line)
    else (if begins line (codes "last ") then unescaped (drop 5 line) else None)

-- the body of a reply: the text behind its first empty line (RFC 9112, section 2.1)
abbrev pub body_of : List ℕ → Option (List ℕ)
body_of [] = None
body_of (b ∷ bs) = if starts_with nat_eq (b ∷ bs) (codes "\r\n\r\n") then Some (drop 4 (b ∷ bs)) else body_of bs
