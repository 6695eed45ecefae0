use Rattle.std.proofs.Common.{◌≡◌, take}
use Rattle.kapi_aggregation.specs.Marks.{KeepsTakers, with_giver}
use Rattle.kapi_aggregation.proofs.takers.put_labels.Given as goal

abbrev pub invariant-loop-label : goal.invariant-loop-label
invariant-loop-label l = record {
  made : l.givers.keys ≡ with_giver l.initial.givers.keys l.name (take l.label-index l.label-items);
  kept : KeepsTakers l.initial.givers.keys l.givers.keys;
}
