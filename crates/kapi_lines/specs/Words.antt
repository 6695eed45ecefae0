-- The words that a line begins with, and items by their numbers.
use Rattle.std.specs.Prelude.{ℕ, ◌-◌, ◌==◌, nat_eq, Bool, if◌then◌else◌, List, Option, None}
use Rattle.std.specs.List.{slice_get, starts_with}

-- the text begins with that word
abbrev pub begins : List ℕ → List ℕ → Bool
begins s word = starts_with nat_eq s word

-- the item of this number, from 1
abbrev pub nth : {X : Type 0} → List X → ℕ → Option X
nth xs n = if n == 0 then None else slice_get xs (n - 1)
