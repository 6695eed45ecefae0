-- Numbers of nodes.
use Rattle.std.specs.Prelude.{◌≡◌, ◌↔◌, ℕ, List, Some}
use Rattle.std.specs.BTreeMap.{BTreeMap, get}
use Rattle.std.specs.List.{slice_get}
use Rattle.std.specs.declared.cmp.Ordering.{Ordering}
use Rattle.kapi_paths.specs.contracts.node.NodeOrd.TheImpl as node_ord
use Rattle.kapi_paths.specs.declared.node.Node.{Node}

-- the order of nodes
abbrev pub node_cmp : Node → Node → Ordering
node_cmp = (node_ord.ghosts).cmp

-- the map has for each node of the list its number there, and for no other one
abbrev pub AreNumbers : BTreeMap Node ℕ → List Node → Type 0
AreNumbers numbers nodes = (x : Node) (n : ℕ) → (get node_cmp numbers x ≡ Some n) ↔ (slice_get nodes n ≡ Some x)

-- no node has two numbers
abbrev pub IsOnce : List Node → Type 0
IsOnce nodes = (i j : ℕ) (x : Node) → slice_get nodes i ≡ Some x → slice_get nodes j ≡ Some x → i ≡ j
