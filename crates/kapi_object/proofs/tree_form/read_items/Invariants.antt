use Rattle.std.proofs.Common.{◌≡◌, ◌++◌, drop}
use Rattle.serde_json.specs.View.{items_view}
use Rattle.kapi_object.specs.Contents.{read_items}
use Rattle.kapi_object.proofs.tree_form.read_items.Given as goal

abbrev pub invariant-loop-item : goal.invariant-loop-item
invariant-loop-item g l =
    l.found.items ++ read_items g.T.FromTree.read_of (items_view (drop l.item-index l.item-items))
    ≡ read_items g.T.FromTree.read_of (items_view l.item-items)
