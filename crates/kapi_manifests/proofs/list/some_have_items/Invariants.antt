use Rattle.std.proofs.Common.{◌≡◌, drop, map}
use Rattle.std.specs.List.{list_any}
use Rattle.kapi_manifests.specs.Files.{data_of, has_items}
use Rattle.kapi_manifests.proofs.list.some_have_items.Given as goal

abbrev pub invariant-loop-manifest : goal.invariant-loop-manifest
invariant-loop-manifest l = list_any has_items (map data_of (drop l.manifest-index l.objects)) ≡ list_any has_items (map data_of l.objects)
