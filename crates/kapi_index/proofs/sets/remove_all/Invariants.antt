use Rattle.std.proofs.Common.{take}
use Rattle.kapi_index.specs.Listed.{AreOrdered, Removes}
use Rattle.kapi_index.proofs.sets.remove_all.Given as goal

abbrev pub invariant-loop-key : goal.invariant-loop-key
invariant-loop-key l = record {
  gone : Removes (take l.key-index l.keys) l.kept l.name l.initial.sets.entries l.sets.entries;
  ordered : AreOrdered l.initial.sets.entries → AreOrdered l.sets.entries;
}
