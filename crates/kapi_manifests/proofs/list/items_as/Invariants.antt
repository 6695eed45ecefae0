use Rattle.std.proofs.Common.{◌≡◌, map}
use Rattle.serde_json.specs.View.{view}
use Rattle.kapi_manifests.specs.Files.{data_of}
use Rattle.kapi_manifests.specs.Sorting.{item_of}
use Rattle.kapi_manifests.proofs.list.items_as.Given as goal

-- each item so far has its kind
abbrev pub invariant-loop-item : goal.invariant-loop-item
invariant-loop-item l = map data_of l.all.items ≡ map (item_of l.kind l.version) (map view l.yielded)
