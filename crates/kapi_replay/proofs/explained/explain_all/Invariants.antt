use Rattle.std.proofs.Common.{◌≡◌, map}
use Rattle.kapi_replay.specs.Failures.{bare}
use Rattle.kapi_replay.proofs.explained.explain_all.Given as goal

abbrev pub invariant-loop-failure : goal.invariant-loop-failure
invariant-loop-failure l = map bare l.explained.items ≡ map bare l.yielded
