use Rattle.std.proofs.Common.{Bool, ◌&&◌, List, ◌++◌, take}
use Rattle.std.specs.List.{list_all}
use Rattle.kapi_missing.specs.Private.Left.{AreRows, Sees, entries_in}
use Rattle.kapi_missing.specs.Private.Stoppers.{Stopper, meets}
use Rattle.kapi_missing.proofs.tree.meeting_all.Given as goal

abbrev pub invariant-loop-entry : goal.invariant-loop-entry
invariant-loop-entry l = (all others : List Stopper) (test : Stopper → Bool) → Sees all test l.rules → AreRows (all ++ others) l.entries
    → Sees all (λ s. test s && list_all (λ i. meets i s) (entries_in (take l.entry-index l.entries))) l.full.items
