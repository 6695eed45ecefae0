use Rattle.std.proofs.Common.{◌≡◌, Bool, [], ◌∷◌, ◌++◌, List, take}
use Rattle.kapi_missing.specs.Private.Grid.{IsRowMarked, placed_items}
use Rattle.kapi_missing.specs.Private.Left.{atoms_behind, item, left}
use Rattle.kapi_missing.specs.Private.Stoppers.{Stopper}
use Rattle.kapi_missing.proofs.grid.push_names.Given as goal

abbrev pub invariant-loop-name : goal.invariant-loop-name
invariant-loop-name l = (all : List Stopper) (test : Stopper → Bool) → IsRowMarked all test l.columns.names.items l.word
    → l.list.items ≡ l.initial.list.items ++ atoms_behind (item l.group ∷ item l.resource ∷ item l.verb ∷ []) (left all test (placed_items (take l.name-index l.names) ∷ []))
