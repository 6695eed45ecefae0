use Rattle.std.proofs.Common.{◌≡◌, drop}
use Rattle.serde_json.specs.Data.{no_members}
use Rattle.serde_json.specs.View.{members_view}
use Rattle.kapi_object.specs.Contents.{put_labels}
use Rattle.kapi_object.proofs.selector_form.label_members.Given as goal

abbrev pub invariant-loop-label : goal.invariant-loop-label
invariant-loop-label l =
    put_labels (drop l.label-index l.labels) (members_view l.members.entries) ≡ put_labels l.labels no_members
