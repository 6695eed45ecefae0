use Rattle.std.proofs.Common.{[], ◌∷◌, ◌++◌, List, take}
use Rattle.kapi_missing.specs.Private.Left.{AreRows, IsCounted, entries_in}
use Rattle.kapi_missing.specs.Private.Stoppers.{Stopper}
use Rattle.kapi_missing.proofs.tree.count_last.Given as goal

abbrev pub invariant-loop-entry : goal.invariant-loop-entry
invariant-loop-entry l = (all others : List Stopper) → AreRows (all ++ others) l.entries → IsCounted all (entries_in (take l.entry-index l.entries) ∷ []) l.rules l.left
