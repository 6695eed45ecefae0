use Rattle.std.proofs.Common.{◌≡◌, Bool, [], ◌∷◌, ◌++◌, List, take}
use Rattle.kapi_missing.specs.Private.Grid.{AreVerbsMarked, placed_items}
use Rattle.kapi_missing.specs.Private.Left.{atoms_behind, item, left}
use Rattle.kapi_missing.specs.Private.Stoppers.{Stopper}
use Rattle.kapi_missing.proofs.grid.push_verbs.Given as goal

abbrev pub invariant-loop-verb : goal.invariant-loop-verb
invariant-loop-verb l = (all : List Stopper) (test : Stopper → Bool) → AreVerbsMarked all test l.grid.columns l.grid.marks.items l.first
    → l.list.items ≡ l.initial.list.items ++ atoms_behind (item l.group ∷ item l.resource ∷ []) (left all test (placed_items (take l.verb-index l.rule.verbs.items) ∷ placed_items l.rule.names.items ∷ []))
