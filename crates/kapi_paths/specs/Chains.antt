-- Chains of steps in a graph of numbered nodes.
use Rattle.std.specs.Prelude.{◌≡◌, ◌⊎◌, ℕ, ◌<◌, List, [], ◌∷◌, length, get_or}

-- x is among the items
abbrev pub Has : {X : Type 0} → List X → X → Type 0
Has [] x = ⊥
Has (y ∷ ys) x = (y ≡ x) ⊎ Has ys x

-- the nodes to which the steps of a node lead
abbrev pub row : List (List ℕ) → ℕ → List ℕ
row graph n = get_or graph n []

-- each step leads to a node of the graph
abbrev pub IsInside : List (List ℕ) → Type 0
IsInside graph = (n m : ℕ) → Has (row graph n) m → m < length graph

-- steps lead from the first node over those of the path, in order, the last of which is the second
abbrev pub IsChain : List (List ℕ) → ℕ → List ℕ → ℕ → Type 0
IsChain graph from [] to = from ≡ to
IsChain graph from (n ∷ path) to = Has (row graph from) n × IsChain graph n path to
