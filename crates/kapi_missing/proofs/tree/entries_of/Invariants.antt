use Rattle.std.proofs.Common.{◌≡◌, List}
use Rattle.kapi_missing.specs.Private.Index.{IsIndex}
use Rattle.kapi_missing.specs.Private.Left.{AreRows, entries_in, items_in}
use Rattle.kapi_missing.specs.Private.Stoppers.{Stopper}
use Rattle.kapi_missing.proofs.tree.entries_of.Given as goal

abbrev pub invariant-loop-part : goal.invariant-loop-part
invariant-loop-part l = (entries_in l.entries.items ≡ items_in l.yielded) × ((all : List Stopper) → IsIndex all l.rules → AreRows all l.entries.items)
