use Rattle.std.proofs.Common.{◌≡◌, ◌++◌, drop}
use Rattle.serde_json.specs.View.{items_view}
use Rattle.kapi_object.specs.Typed.{items_faults}
use Rattle.kapi_object.proofs.typed_list.push_items_faults.Given as goal

abbrev pub invariant-loop-index : goal.invariant-loop-index
invariant-loop-index g l =
    l.faults.items ++ items_faults (g.E.Element.faults_of l.element) l.path l.index (items_view (drop l.index l.value-items))
    ≡ l.initial.faults.items ++ items_faults (g.E.Element.faults_of l.element) l.path 0 (items_view l.value-items)
