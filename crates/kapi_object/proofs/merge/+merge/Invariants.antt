use Rattle.std.proofs.Common.{◌≡◌}
use Rattle.serde_json.specs.View.{members_view}
use Rattle.kapi_object.specs.Merge.{all_merged}
use Rattle.kapi_object.proofs.merge.+merge.Given as goal

abbrev pub invariant-merge_all-loop-name : goal.invariant-merge_all-loop-name
invariant-merge_all-loop-name l =
    all_merged (members_view l.members.entries) (members_view l.name-iterator) ≡ all_merged (members_view l.initial.members.entries) (members_view l.patches.entries)
