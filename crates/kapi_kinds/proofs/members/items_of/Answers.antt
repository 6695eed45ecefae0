use Rattle.std.proofs.Common.{◌∙◌, ap, map, sym}
use Rattle.serde_json.proofs.Views.{view-Array}
use Rattle.serde_json.specs.View.{view}
use Rattle.kapi_manifests.proofs.Listed.{listed_items}
use Rattle.kapi_kinds.proofs.members.items_of.Goals as goal

pub returns-in-Array : goal.returns-in-Array
returns-in-Array c = ap (map view) c.as_slice.ensures.value ∙ rw (c.in-Array.is, view-Array c.in-Array.items) (sym (listed_items _))
