use Rattle.std.proofs.Common.{◌≡◌, ◌∙◌, List, ap, sym}
use Rattle.kapi_model.specs.declared.selector.Label.{Label}
use Rattle.kapi_store.specs.Private.Alike.{same_labels}
use Rattle.kapi_store.proofs.Alike.{labels_decide}
use Rattle.kapi_store.proofs.stored.StoredObject.is_labelled_as.Goals as goal

pub returns : goal.returns
returns c =
    let mine : List Label = c.args.self.now.labels in
    let others : List Label = c.args.other.now.labels in
    let test = labels_decide mine others in
    let made : c.are_same.result ≡ same_labels mine others = c.are_same.ensures ∙ ap (λ ls. same_labels ls c.as_slice-2.result.now) c.as_slice.ensures ∙ ap (same_labels mine) c.as_slice-2.ensures in (
      λ same. sym c.args.self.now.labelled ∙ test.0 (sym made ∙ same) ∙ c.args.other.now.labelled,
      λ is. made ∙ test.1 (c.args.self.now.labelled ∙ is ∙ sym c.args.other.now.labelled),
    )
