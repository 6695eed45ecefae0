use Rattle.std.proofs.Common.{ap, ◌∙◌}
use Rattle.kapi_model.specs.Selector.{matches_values}
use Rattle.kapi_store.proofs.stored.StoredObject.is_selected.Goals as goal

pub returns : goal.returns
returns c = c.matches.ensures ∙ ap (matches_values c.args.selector.now) c.labels.ensures
