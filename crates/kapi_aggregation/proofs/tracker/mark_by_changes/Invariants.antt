use Rattle.std.proofs.Common.{◌≡◌, map, take}
use Rattle.kapi_store.specs.Plain.{plain_change, plain_of}
use Rattle.kapi_aggregation.specs.Marks.{Keeps, mark_all}
use Rattle.kapi_aggregation.proofs.tracker.mark_by_changes.Given as goal

abbrev pub invariant-loop-change : goal.invariant-loop-change
invariant-loop-change l = record {
  made : l.marks.keys ≡ mark_all (plain_of l.store).objects l.takers.keys l.initial.marks.keys (map plain_change (take l.change-index l.changes));
  kept : Keeps l.initial.marks.keys l.marks.keys;
}
