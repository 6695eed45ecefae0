use Rattle.std.proofs.Common.{List, true}
use Rattle.kapi_missing.specs.Private.Grid.{AreFew, AreGridColumns}
use Rattle.kapi_missing.specs.Private.Index.{IsIndex}
use Rattle.kapi_missing.specs.Private.Left.{Sees}
use Rattle.kapi_missing.specs.Private.Stoppers.{Stopper}
use Rattle.kapi_missing.proofs.grid.columns_of.Given as goal

abbrev pub invariant-loop-rule : goal.invariant-loop-rule
invariant-loop-rule l = AreFew l.columns × ((all : List Stopper) → IsIndex all l.rules → Sees all (λ s. true) l.everyone → AreGridColumns all l.columns)
