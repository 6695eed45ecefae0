use Rattle.std.proofs.Common.{take}
use Rattle.kapi_index.specs.Listed.{Adds, AreOrdered}
use Rattle.kapi_index.proofs.sets.add_all.Given as goal

abbrev pub invariant-loop-key : goal.invariant-loop-key
invariant-loop-key l = record {
  added : Adds (take l.key-index l.keys) l.name l.initial.sets.entries l.sets.entries;
  ordered : AreOrdered l.initial.sets.entries → AreOrdered l.sets.entries;
}
