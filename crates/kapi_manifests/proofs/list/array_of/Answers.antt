use Rattle.std.proofs.Common.{Some, ap, sym}
use Rattle.serde_json.proofs.Views.{view-Array}
use Rattle.kapi_manifests.proofs.Listed.{listed_items}
use Rattle.kapi_manifests.proofs.list.array_of.Goals as goal

pub returns-in-Array : goal.returns-in-Array
returns-in-Array c = rw (c.in-Array.is, view-Array c.in-Array.items) (ap Some (sym (listed_items _)))
