use Rattle.std.proofs.Common.{◌≡◌, Bool, [], ◌∷◌, ◌++◌, List, take}
use Rattle.kapi_missing.specs.Private.Left.{AreRows, Sees, atoms_behind, entries_in, items_in, left}
use Rattle.kapi_missing.specs.Private.Stoppers.{Stopper}
use Rattle.kapi_missing.proofs.tree.push_last.Given as goal

abbrev pub invariant-loop-entry : goal.invariant-loop-entry
invariant-loop-entry l = (l.chosen.items ≡ l.initial.chosen.items)
    × ((all others : List Stopper) (test : Stopper → Bool) → Sees all test l.rules → AreRows (all ++ others) l.entries
    → l.list.items ≡ l.initial.list.items ++ atoms_behind (items_in l.initial.chosen.items) (left all test (entries_in (take l.entry-index l.entries) ∷ [])))
