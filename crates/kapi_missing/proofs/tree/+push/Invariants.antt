use Rattle.std.proofs.Common.{◌≡◌, ◌+◌, ◌*◌, Bool, ◌∷◌, ◌++◌, List, length, take}
use Rattle.kapi_missing.specs.Private.Left.{AreLevels, AreRows, Sees, atoms_behind, entries_in, items_in, left, lists_in}
use Rattle.kapi_missing.specs.Private.Stoppers.{Stopper}
use Rattle.kapi_missing.proofs.tree.+push.Given as goal

abbrev pub decreases-push : goal.decreases-push
decreases-push l = 3 * length l.behind.now + 2

abbrev pub decreases-push_each : goal.decreases-push_each
decreases-push_each l = 3 * length l.rest.now + 4

abbrev pub decreases-push_below : goal.decreases-push_below
decreases-push_below l = 3 * length l.rest.now + 3

abbrev pub invariant-push_each-loop-entry : goal.invariant-push_each-loop-entry
invariant-push_each-loop-entry l = (l.chosen.items ≡ l.initial.chosen.items)
    × ((all others : List Stopper) (test : Stopper → Bool) → Sees all test l.rules → AreRows (all ++ others) l.entries → AreLevels all others (l.next ∷ l.rest)
    → l.list.items ≡ l.initial.list.items ++ atoms_behind (items_in l.initial.chosen.items) (left all test (entries_in (take l.entry-index l.entries) ∷ lists_in (l.next ∷ l.rest))))
