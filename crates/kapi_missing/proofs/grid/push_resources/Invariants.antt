use Rattle.std.proofs.Common.{◌≡◌, Bool, [], ◌∷◌, ◌++◌, List, take}
use Rattle.kapi_missing.specs.Private.Grid.{AreResourcesMarked, placed_items}
use Rattle.kapi_missing.specs.Private.Left.{atoms_behind, item, left}
use Rattle.kapi_missing.specs.Private.Stoppers.{Stopper}
use Rattle.kapi_missing.proofs.grid.push_resources.Given as goal

abbrev pub invariant-loop-resource : goal.invariant-loop-resource
invariant-loop-resource l = (all : List Stopper) (test : Stopper → Bool) → AreResourcesMarked all test l.grid.columns l.grid.marks.items l.first
    → l.list.items ≡ l.initial.list.items ++ atoms_behind (item l.group ∷ []) (left all test (placed_items (take l.resource-index l.rule.resources.items) ∷ placed_items l.rule.verbs.items ∷ placed_items l.rule.names.items ∷ []))
