-- The names of a set: one alone at most, or those of a tree.
use Rattle.std.specs.Prelude.{ℕ, List, [], ◌∷◌, Some, None}
use Rattle.kapi_index.specs.declared.names.Names.{Names}
use Rattle.kapi_index.specs.declared.names.Names.TheVariants.{Few, Many}

-- the names of a set, in order
abbrev pub names_in : Names → List (List ℕ)
names_in (Few None) = []
names_in (Few (Some name)) = name ∷ []
names_in (Many names) = names
