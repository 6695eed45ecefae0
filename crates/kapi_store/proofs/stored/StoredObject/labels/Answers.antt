use Rattle.std.proofs.Common.{ap, ◌∙◌}
use Rattle.kapi_model.specs.Selector.{value_in}
use Rattle.kapi_store.specs.Stored.{stored_tree}
use Rattle.kapi_store.proofs.Labelled.{told_ordered, values_kept}
use Rattle.kapi_store.proofs.stored.StoredObject.labels.Goals as goal

pub returns : goal.returns
returns c =
    c.new.ensures ∙ ap value_in (c.as_slice.ensures ∙ c.args.self.now.labelled)
    ∙ values_kept (stored_tree c.args.self.now) (told_ordered c.args.self.now.text c.args.self.now.reads)
