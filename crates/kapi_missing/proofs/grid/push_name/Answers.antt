use Rattle.std.proofs.Common.{◌∙◌, ◌∷◌, [], sym}
use Rattle.std.proofs.lemmas.Result.{on_ok_weaker}
use Rattle.kapi_missing.proofs.Counted.{met_none, unmet_one}
use Rattle.kapi_missing.specs.Private.Left.{item}
use Rattle.kapi_missing.proofs.grid.push_name.Goals as goal

pub returns-then-is_marked : goal.returns-then-is_marked
returns-then-is_marked c = λ all test same.
    met_none all test (item c.args.name.now.part) (item c.args.group ∷ item c.args.resource ∷ item c.args.verb ∷ []) c.args.list.now.items (sym same ∙ sym c.is_marked.ensures ∙ c.if-is_marked.true)

pub returns : goal.returns
returns c =
    on_ok_weaker c.push_atom.result (λ grown. λ all test same.
    unmet_one all test (item c.args.name.now.part) (item c.args.group ∷ item c.args.resource ∷ item c.args.verb ∷ []) c.args.list.now.items c.push_atom.new.list.items
    (sym same ∙ sym c.is_marked.ensures ∙ c.if-is_marked.false) grown)
    c.push_atom.ensures
