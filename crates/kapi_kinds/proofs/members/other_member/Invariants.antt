use Rattle.std.proofs.Common.{◌≡◌}
use Rattle.std.specs.List.{list_all}
use Rattle.serde_json.specs.View.{members_view}
use Rattle.kapi_kinds.specs.Rows.{is_column, keys}
use Rattle.kapi_kinds.proofs.members.other_member.Given as goal

abbrev pub invariant-loop-key : goal.invariant-loop-key
invariant-loop-key l = list_all is_column (keys (members_view l.key-iterator)) ≡ list_all is_column (keys (members_view l.members.entries))
