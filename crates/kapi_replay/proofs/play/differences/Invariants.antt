use Rattle.std.proofs.Common.{◌≡◌, take}
use Rattle.std.specs.List.{flat_map}
use Rattle.kapi_replay.specs.Failures.{unmet}
use Rattle.kapi_replay.proofs.play.differences.Given as goal

abbrev pub invariant-loop-want : goal.invariant-loop-want
invariant-loop-want l = l.failures.items ≡ flat_map (unmet l.case.script l.answers.items) (take l.want-index l.case.wants)
