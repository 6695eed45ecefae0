use Rattle.std.proofs.Common.{◌≡◌, ◌++◌}
use Rattle.serde_json.specs.View.{members_view}
use Rattle.kapi_object.specs.Faults.{members_faults}
use Rattle.kapi_object.proofs.metadata.push_members_faults.Given as goal

abbrev pub invariant-loop-key : goal.invariant-loop-key
invariant-loop-key l =
    l.faults.items ++ members_faults l.sort l.field (members_view l.key-iterator)
    ≡ l.initial.faults.items ++ members_faults l.sort l.field (members_view l.members.entries)
