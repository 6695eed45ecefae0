use Rattle.std.proofs.Common.{◌≡◌, [], ◌∷◌, ◌++◌, List, true, take}
use Rattle.kapi_missing.specs.Private.Grid.{IsMarked, placed_items}
use Rattle.kapi_missing.specs.Private.Left.{atoms_behind, left}
use Rattle.kapi_missing.specs.Private.Stoppers.{Stopper}
use Rattle.kapi_missing.proofs.grid.push_unmarked.Given as goal

abbrev pub invariant-loop-group : goal.invariant-loop-group
invariant-loop-group l = (all : List Stopper) → IsMarked all l.grid.columns l.grid.marks.items
    → l.list.items ≡ l.initial.list.items ++ atoms_behind []
    (left all (λ s. true) (placed_items (take l.group-index l.rule.groups.items) ∷ placed_items l.rule.resources.items ∷ placed_items l.rule.verbs.items ∷ placed_items l.rule.names.items ∷ []))
