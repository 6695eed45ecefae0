use Rattle.std.proofs.Common.{◌≡◌}
use Rattle.kapi_paths.specs.Gathered.{in_order}
use Rattle.kapi_paths.proofs.gathered.in_order.Given as goal

abbrev pub invariant-loop-item : goal.invariant-loop-item
invariant-loop-item g l = l.set.keys ≡ in_order g.T.Ord.cmp l.yielded
