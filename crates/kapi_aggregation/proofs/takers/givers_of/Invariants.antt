use Rattle.std.proofs.Common.{◌≡◌, map, take}
use Rattle.kapi_aggregation.specs.Marks.{all_givers}
use Rattle.kapi_aggregation.specs.Views.{labelled}
use Rattle.kapi_aggregation.proofs.takers.givers_of.Given as goal

abbrev pub invariant-loop-role : goal.invariant-loop-role
invariant-loop-role l = l.givers.keys ≡ all_givers (map labelled (take l.role-index l.roles))
