use Rattle.std.proofs.Common.{◌≡◌, take}
use Rattle.kapi_aggregation.specs.Marks.{KeepsTakers, with_takers}
use Rattle.kapi_aggregation.proofs.takers.put_selectors.Given as goal

abbrev pub invariant-loop-selector : goal.invariant-loop-selector
invariant-loop-selector l = record {
  made : l.takers.keys ≡ with_takers l.initial.takers.keys l.name (take l.selector-index l.selectors);
  kept : KeepsTakers l.initial.takers.keys l.takers.keys;
}
