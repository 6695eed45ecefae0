use Rattle.std.proofs.Common.{◌≡◌, map, take}
use Rattle.std.specs.List.{fold}
use Rattle.kapi_store.specs.Stored.{stored_tree}
use Rattle.kapi_aggregation.specs.Marks.{Keeps, mark_taker}
use Rattle.kapi_aggregation.specs.Roles.{labels_in}
use Rattle.kapi_aggregation.specs.Views.{labelled}
use Rattle.kapi_aggregation.proofs.tracker.mark_by_labels.Given as goal

abbrev pub invariant-loop-role : goal.invariant-loop-role
invariant-loop-role l = record {
  made : l.marks.keys ≡ fold (mark_taker (labels_in (stored_tree l.object))) l.initial.marks.keys (map labelled (take l.role-index l.roles));
  kept : Keeps l.initial.marks.keys l.marks.keys;
}
