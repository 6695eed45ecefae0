use Rattle.std.proofs.Common.{◌≡◌, Ok, map}
use Rattle.kapi_audit.proofs.threads.finished.Given as goal

abbrev pub invariant-loop-result : goal.invariant-loop-result
invariant-loop-result l = map Ok l.shares.items ≡ l.yielded
