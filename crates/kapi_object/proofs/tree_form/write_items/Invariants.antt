use Rattle.std.proofs.Common.{◌≡◌, take, map}
use Rattle.serde_json.specs.View.{view}
use Rattle.kapi_object.proofs.tree_form.write_items.Given as goal

abbrev pub invariant-loop-value : goal.invariant-loop-value
invariant-loop-value g l = map view l.items.items ≡ map g.T.ToTree.tree_of (take l.value-index l.values)
