use Rattle.std.proofs.Common.{◌+◌, ◌*◌, ◌∷◌, ◌++◌, List, length, take}
use Rattle.kapi_missing.specs.Private.Left.{AreClasses, AreLevels, AreRows, IsCounted, entries_in, lists_in}
use Rattle.kapi_missing.specs.Private.Stoppers.{Stopper}
use Rattle.kapi_missing.proofs.tree.+count.Given as goal

abbrev pub decreases-count : goal.decreases-count
decreases-count l = 3 * length l.behind.now + 2

abbrev pub decreases-count_each : goal.decreases-count_each
decreases-count_each l = 3 * length l.rest.now + 4

abbrev pub decreases-count_below : goal.decreases-count_below
decreases-count_below l = 3 * length l.rest.now + 3

abbrev pub invariant-count_each-loop-entry : goal.invariant-count_each-loop-entry
invariant-count_each-loop-entry l = (all others : List Stopper) → AreRows (all ++ others) l.entries → AreLevels all others (l.next ∷ l.rest)
    → AreClasses all (lists_in (l.next ∷ l.rest)) l.classes.items × IsCounted all (entries_in (take l.entry-index l.entries) ∷ lists_in (l.next ∷ l.rest)) l.rules l.total
