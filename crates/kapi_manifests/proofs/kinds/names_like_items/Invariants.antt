use Rattle.std.proofs.Common.{◌≡◌}
use Rattle.std.specs.List.{list_any}
use Rattle.serde_json.specs.View.{members_view}
use Rattle.kapi_manifests.specs.Kinds.{is_like_items, names_of}
use Rattle.kapi_manifests.proofs.kinds.names_like_items.Given as goal

abbrev pub invariant-loop-name : goal.invariant-loop-name
invariant-loop-name l = list_any is_like_items (names_of (members_view l.name-iterator)) ≡ list_any is_like_items (names_of (members_view l.members.entries))
