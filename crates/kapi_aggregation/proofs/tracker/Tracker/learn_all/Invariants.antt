use Rattle.std.proofs.Common.{◌≡◌, map, take}
use Rattle.kapi_store.specs.Plain.{plain_change}
use Rattle.kapi_aggregation.specs.Marks.{KeepsAll, learned}
use Rattle.kapi_aggregation.proofs.tracker.Tracker.learn_all.Given as goal

abbrev pub invariant-loop-change : goal.invariant-loop-change
invariant-loop-change l = record {
  made : l.self ≡ learned l.initial.self (map plain_change (take l.change-index l.changes));
  kept : KeepsAll l.initial.self l.self;
}
