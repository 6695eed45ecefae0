use Rattle.std.proofs.Common.{◌≡◌, ◌++◌}
use Rattle.serde_json.specs.View.{members_view}
use Rattle.kapi_object.specs.Contents.{labels_in}
use Rattle.kapi_object.proofs.selector_form.labels_of_members.Given as goal

abbrev pub invariant-loop-key : goal.invariant-loop-key
invariant-loop-key l =
    l.labels.items ++ labels_in (members_view l.key-iterator) ≡ labels_in (members_view l.members.entries)
