use Rattle.std.proofs.Common.{◌≡◌, ◌++◌, take}
use Rattle.std.specs.List.{flat_map}
use Rattle.kapi_replay.specs.Doubts.{doubt}
use Rattle.kapi_replay.proofs.doubts.check_case.Given as goal

abbrev pub invariant-loop-want : goal.invariant-loop-want
invariant-loop-want l = l.doubts.items ≡ l.initial.doubts.items ++ flat_map (doubt l.table l.lines l.case.script) (take l.want-index l.case.wants)
