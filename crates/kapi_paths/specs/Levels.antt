-- What a search by levels has found.
use Rattle.std.specs.Prelude.{◌≡◌, ◌⊎◌, ℕ, ◌+◌, ◌≤◌, List, [], ◌∷◌, ◌++◌, get_or, replicate, set, Bool, true, false, if◌then◌else◌, Option, Some, None}
use Rattle.std.specs.List.{fold, slice_get}
use Rattle.kapi_paths.specs.declared.search.Discovered.{Discovered}
use Rattle.kapi_paths.specs.Chains.{Has, row}

-- what is found so far, and the nodes of the next level
pub record State : Type 0 where
  pub table : List (Option Discovered)
  pub next : List ℕ

-- by what a node was found
abbrev pub found_at : List (Option Discovered) → ℕ → Option Discovered
found_at table n = get_or table n None

abbrev pub is_vacant : Option (Option Discovered) → Bool
is_vacant None = false
is_vacant (Some None) = true
is_vacant (Some (Some f)) = false

-- the table has a place for the node, and it was not found
abbrev pub is_open : List (Option Discovered) → ℕ → Bool
is_open table n = is_vacant (slice_get table n)

-- a search that begins at the node
abbrev pub started : ℕ → ℕ → State
started size start = record { table = set (replicate size None) start (Some (record { steps = 0; from = start })); next = start ∷ [] }

-- after a step to the node
unfoldable pub visited : Discovered → State → ℕ → State
visited f s n = if is_open s.table n then record { table = set s.table n (Some f); next = s.next ++ n ∷ [] } else s

-- after the steps of a node
abbrev pub passed : List (List ℕ) → ℕ → State → ℕ → State
passed graph steps s n = fold (visited (record { steps = steps; from = n })) s (row graph n)

-- how many nodes are not found
abbrev pub vacant : List (Option Discovered) → ℕ
vacant [] = 0
vacant (None ∷ table) = vacant table + 1
vacant (Some f ∷ table) = vacant table

-- the node was found at so many steps
abbrev pub IsFoundAt : List (Option Discovered) → ℕ → ℕ → Type 0
IsFoundAt table n steps = (f : Discovered) × (found_at table n ≡ Some f) × (f.steps ≡ steps)

-- the node was found at so many steps or less
abbrev pub IsFoundWithin : List (Option Discovered) → ℕ → ℕ → Type 0
IsFoundWithin table n steps = (f : Discovered) × (found_at table n ≡ Some f) × (f.steps ≤ steps)

-- the node is the start, or a step leads to it from one that was found a step before
abbrev pub IsRight : List (List ℕ) → ℕ → List (Option Discovered) → ℕ → Discovered → Type 0
IsRight graph start table n f =
    ((f.steps ≡ 0) × (start ≡ n)) ⊎ ((k : ℕ) × (f.steps ≡ k + 1) × Has (row graph f.from) n × IsFoundAt table f.from k)

-- the table has each node that chains of steps reach from the start, by a shortest one
pub record IsSearched (graph : List (List ℕ)) (start : ℕ) (table : List (Option Discovered)) : Type 0 where
  pub first : IsFoundAt table start 0
  pub right : (n : ℕ) (f : Discovered) → found_at table n ≡ Some f → IsRight graph start table n f
  pub closed : (n m : ℕ) (f : Discovered) → found_at table n ≡ Some f → Has (row graph n) m → IsFoundWithin table m (f.steps + 1)

-- a search of a graph from a node
pub record Searched : Type 0 where
  pub graph : List (List ℕ)
  pub start : ℕ
  pub table : List (Option Discovered)
