use Rattle.std.proofs.Common.{◌≡◌, map, take}
use Rattle.kapi_store.specs.Plain.{plain_change}
use Rattle.kapi_aggregation.specs.Marks.{KeepsTakers, with_all_left}
use Rattle.kapi_aggregation.proofs.takers.put_left.Given as goal

abbrev pub invariant-loop-change : goal.invariant-loop-change
invariant-loop-change l = record {
  made : l.givers.keys ≡ with_all_left l.initial.givers.keys (map plain_change (take l.change-index l.changes));
  kept : KeepsTakers l.initial.givers.keys l.givers.keys;
}
