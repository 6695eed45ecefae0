use Rattle.std.proofs.Common.{◌≡◌, ◌++◌}
use Rattle.serde_json.specs.View.{members_view}
use Rattle.kapi_store.specs.Labels.{labels_among}
use Rattle.kapi_store.proofs.labels.labels_among_members.Given as goal

abbrev pub invariant-loop-key : goal.invariant-loop-key
invariant-loop-key l = l.labels.items ++ labels_among (members_view l.key-iterator) ≡ labels_among (members_view l.members.entries)
