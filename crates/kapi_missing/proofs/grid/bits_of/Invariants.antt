use Rattle.std.proofs.Common.{take}
use Rattle.kapi_missing.specs.Private.Grid.{AreAmong}
use Rattle.kapi_missing.proofs.grid.bits_of.Given as goal

abbrev pub invariant-loop-name : goal.invariant-loop-name
invariant-loop-name l = AreAmong l.bits (take l.name-index l.names)
