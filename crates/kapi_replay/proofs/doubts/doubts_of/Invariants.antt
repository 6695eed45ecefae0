use Rattle.std.proofs.Common.{◌≡◌, take}
use Rattle.kapi_replay.specs.Doubts.{doubts_of}
use Rattle.kapi_replay.proofs.doubts.doubts_of.Given as goal

abbrev pub invariant-loop-case : goal.invariant-loop-case
invariant-loop-case l = l.doubts.items ≡ doubts_of l.loads l.lines (take l.case-index l.cases)
