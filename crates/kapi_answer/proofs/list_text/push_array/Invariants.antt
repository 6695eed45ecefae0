use Rattle.std.proofs.Common.{◌≡◌, ◌++◌, false, map, drop}
use Rattle.kapi_store.specs.Stored.{stored_tree}
use Rattle.serde_json.specs.View.{items_of}
use Rattle.serde_json.specs.Written.{items_text}
use Rattle.kapi_answer.proofs.list_text.push_array.Given as goal

abbrev pub invariant-loop-one : goal.invariant-loop-one
invariant-loop-one l =
    l.text.items ++ items_text l.later (items_of (map (λ l. stored_tree l.object.now) (drop l.one-index l.listed)))
    ≡ l.initial.text.items ++ items_text false (items_of (map (λ l. stored_tree l.object.now) l.listed))
