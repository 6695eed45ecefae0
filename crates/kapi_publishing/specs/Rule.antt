-- Beginnings of lists of steps.
use Rattle.std.specs.Prelude.{◌≡◌, List, ◌++◌}
use Rattle.kapi_policy.specs.declared.change.PolicyChange.{PolicyChange}

-- the second list begins with the first
abbrev pub Begins : List (List PolicyChange) → List (List PolicyChange) → Type 0
Begins xs ys = (rest : List (List PolicyChange)) × (ys ≡ xs ++ rest)
