use Rattle.std.proofs.Common.{◌∙◌, ap, map}
use Rattle.kapi_store.specs.Listing.{listed_trees, shown}
use Rattle.kapi_store.specs.Plain.{plain_of, trees}
use Rattle.kapi_answer.specs.Collection.{listed}
use Rattle.kapi_answer.proofs.Listed.{list_told}
use Rattle.kapi_answer.proofs.collection.list.Goals as goal

pub returns-clause-gives : goal.returns-clause-gives
unfolding listed
returns-clause-gives c =
    let s = plain_of c.args.store.now in
    let filter = c.args.filter.now in
    list_told c.args.row.now c.as_slice.result.now (listed_trees c.args.row.now c.args.namespace.now filter.selector filter.name s.objects)
    c.revision.result s.revision c.in_ok-list_text.field-0.items c.in_ok-list_text.ensures c.revision.ensures.number
    (ap (λ ls. trees (map shown ls)) c.as_slice.ensures.value ∙ c.in_ok-listed.ensures.trees
    ∙ ap (λ name. listed_trees c.args.row.now c.args.namespace.now filter.selector name s.objects) c.as_str.ensures)
