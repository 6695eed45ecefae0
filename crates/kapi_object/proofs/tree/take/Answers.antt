use Rattle.std.proofs.Common.{option_map, ap, ◌∙◌}
use Rattle.serde_json.proofs.Views.{view-lookup}
use Rattle.serde_json.specs.View.{view}
use Rattle.kapi_object.proofs.Removal.{members_view_removed}
use Rattle.kapi_object.proofs.tree.take.Goals as goal

pub returns-clause-left : goal.returns-clause-left
returns-clause-left c = rw c.remove.ensures.entries (members_view_removed c.args.key.now c.args.members.now.entries c.requires)

pub returns-clause-taken : goal.returns-clause-taken
returns-clause-taken c = ap (option_map view) c.remove.ensures.value ∙ view-lookup c.args.key.now c.args.members.now.entries
