-- What is true of any two seats.
use Rattle.std.specs.Prelude.{◌≡◌, ◌⊎◌}
use Rattle.kapi_publishing.specs.Boards.{Chair}
use Rattle.kapi_publishing.specs.Rule.{Begins}

-- of two lists one begins the other, and they follow one policy
abbrev pub Agree : Chair → Chair → Type 0
Agree c d = (c.opening ≡ d.opening) × (Begins c.seen d.seen ⊎ Begins d.seen c.seen)
