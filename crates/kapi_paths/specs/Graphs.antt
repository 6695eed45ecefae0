-- The graph of who can become whom, and its paths.
use Rattle.std.specs.Prelude.{◌≡◌, ◌⊎◌, ℕ, ◌<◌, ◌≤◌, Bool, true, false, List, [], ◌∷◌, ◌++◌, length, Some}
use Rattle.std.specs.List.{slice_get}
use Rattle.kapi_policy.specs.Decided.{Binding}
use Rattle.kapi_policy.specs.Objects.{PolicyObjects}
use Rattle.kapi_paths.specs.Chains.{Has, IsChain, row}
use Rattle.kapi_paths.specs.Numbers.{IsOnce}
use Rattle.kapi_paths.specs.Rights.{Row}
use Rattle.kapi_paths.specs.Steps.{everything, next}
use Rattle.kapi_paths.specs.declared.node.Node.{Node}
use Rattle.kapi_paths.specs.declared.node.NodeKind.{NodeKind}
use Rattle.kapi_paths.specs.declared.node.NodeKind.TheVariants as kind
use Rattle.kapi_paths.specs.declared.path.Path.{Path}
use Rattle.kapi_paths.specs.declared.steps.Known.{Known}

-- whom one can become in a step
abbrev pub next_of : PolicyObjects → List Binding → Known → List Row → Node → List Node
next_of objects bindings known rows n = next objects bindings known rows n.kind n.place n.name

-- steps lead from the first over the nodes of the path, in order, the last of which is the second
abbrev pub IsWalk : (Node → List Node) → Node → List Node → Node → Type 0
IsWalk step from [] to = from ≡ to
IsWalk step from (n ∷ path) to = Has (step from) n × IsWalk step n path to

-- ---- numbers

-- the nodes at the numbers are those
abbrev pub AreAt : List Node → List ℕ → List Node → Type 0
AreAt nodes [] [] = Unit
AreAt nodes [] (x ∷ xs) = ⊥
AreAt nodes (n ∷ ns) [] = ⊥
AreAt nodes (n ∷ ns) (x ∷ xs) = (slice_get nodes n ≡ Some x) × AreAt nodes ns xs

-- the list begins with the other
abbrev pub Begins : List Node → List Node → Type 0
Begins front list = (more : List Node) × (list ≡ front ++ more)

-- each node has one number, and at it a row of the numbers of whom it can become
pub record IsGraph (step : Node → List Node) (nodes : List Node) (rows : List (List ℕ)) : Type 0 where
  pub size : length rows ≡ length nodes
  pub once : IsOnce nodes
  pub next : (n : ℕ) (x : Node) → slice_get nodes n ≡ Some x → AreAt nodes (row rows n) (step x)

-- ---- paths

-- who is listed if not everything is reached: all but those who hold a role
abbrev pub is_listed : NodeKind → Bool
is_listed kind.Role = false
is_listed kind.ClusterRole = false
is_listed other = true

-- the path is that of a shortest chain between the numbers
pub record IsDrawn (nodes : List Node) (rows : List (List ℕ)) (from to : ℕ) (p : Path) : Type 0 where
  pub numbers : List ℕ
  pub at_from : slice_get nodes from ≡ Some p.from
  pub at_to : slice_get nodes to ≡ Some p.to
  pub at_path : AreAt nodes numbers p.nodes
  pub chain : IsChain rows from numbers to
  pub shortest : (path : List ℕ) → IsChain rows from path to → length numbers ≤ length path

-- the path is one from the number to another, whose node is listed, and to everything if that is reached
pub record IsSomewhere (nodes : List Node) (rows : List (List ℕ)) (from : ℕ) (p : Path) : Type 0 where
  pub to : ℕ
  pub drawn : IsDrawn nodes rows from to p
  pub alone : (path : List ℕ) → IsChain rows from path 0 → to ≡ 0
  pub other : from ≡ to → ⊥
  pub listed : is_listed p.to.kind ≡ true

-- the list keeps what it had, and what came are such paths
pub record AddsPaths (nodes : List Node) (rows : List (List ℕ)) (from : ℕ) (old new : List Path) : Type 0 where
  pub kept : (p : Path) → Has old p → Has new p
  pub came : (p : Path) → Has new p → Has old p ⊎ IsSomewhere nodes rows from p

-- no two paths of the list have the same ends
abbrev pub AreApart : List Path → Type 0
AreApart list = (i j : ℕ) (p q : Path) → slice_get list i ≡ Some p → slice_get list j ≡ Some q → p.from ≡ q.from → p.to ≡ q.to → i ≡ j

-- they are so, and the numbers of their ends come before those, in the order of the first and then of the second
pub record AreBefore (nodes : List Node) (from to : ℕ) (list : List Path) : Type 0 where
  pub apart : AreApart list
  pub before : (p : Path) (i j : ℕ) → Has list p → slice_get nodes i ≡ Some p.from → slice_get nodes j ≡ Some p.to → (i < from) ⊎ ((i ≡ from) × (j < to))

-- the list has a path between the nodes of the numbers
pub record IsThere (nodes : List Node) (list : List Path) (from to : ℕ) : Type 0 where
  pub path : Path
  pub there : Has list path
  pub at_from : slice_get nodes from ≡ Some path.from
  pub at_to : slice_get nodes to ≡ Some path.to

-- if chains lead from the number to another, whose node is listed, the list has a path there, or to everything
abbrev pub IsCovered : List Node → List (List ℕ) → List Path → ℕ → ℕ → Type 0
IsCovered nodes rows list from to =
    (path : List ℕ) (x : Node) → IsChain rows from path to → slice_get nodes to ≡ Some x → is_listed x.kind ≡ true → (from ≡ to → ⊥)
    → IsThere nodes list from to ⊎ IsThere nodes list from 0

-- the path is a shortest walk from one of the sources to another node that is listed, and to everything if a walk leads there
pub record IsPath (step : Node → List Node) (sources : List Node) (p : Path) : Type 0 where
  pub source : Has sources p.from
  pub listed : is_listed p.to.kind ≡ true
  pub other : p.from ≡ p.to → ⊥
  pub walk : IsWalk step p.from p.nodes p.to
  pub shortest : (nodes : List Node) → IsWalk step p.from nodes p.to → length p.nodes ≤ length nodes
  pub alone : (nodes : List Node) → IsWalk step p.from nodes everything → p.to ≡ everything

-- the list has a path from the node to the other, or to everything
pub record HasPath (list : List Path) (from to : Node) : Type 0 where
  pub path : Path
  pub there : Has list path
  pub from_is : path.from ≡ from
  pub to_is : (path.to ≡ to) ⊎ (path.to ≡ everything)

-- if a walk leads from one of the sources to another node that is listed, the list has a path there, or to everything
abbrev pub HasAll : (Node → List Node) → List Node → List Path → Type 0
HasAll step sources list =
    (from to : Node) (nodes : List Node) → Has sources from → IsWalk step from nodes to → is_listed to.kind ≡ true → (from ≡ to → ⊥) → HasPath list from to
