use Rattle.std.proofs.Common.{◌∙◌, ap}
use Rattle.kapi_model.specs.Selector.{matches_values}
use Rattle.kapi_store.specs.Labels.{labels_of}
use Rattle.kapi_store.specs.Private.Matching.{meets}
use Rattle.kapi_store.specs.Stored.{stored_tree}
use Rattle.kapi_store.proofs.Labelled.{labels_distinct, told_ordered, values_kept}
use Rattle.kapi_store.proofs.matcher.Matcher.selects.Goals as goal

pub returns : goal.returns
returns c = λ selector is.
    let object = c.args.object.now in
    let tree = stored_tree object in
    let ordered = told_ordered object.text object.reads in
    c.matches.ensures ∙ ap (meets c.args.self.now) c.label_list.ensures ∙ is (labels_of tree) (labels_distinct tree ordered)
    ∙ ap (matches_values selector) (values_kept tree ordered)
