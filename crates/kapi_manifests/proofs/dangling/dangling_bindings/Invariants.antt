use Rattle.std.proofs.Common.{◌≡◌, ◌++◌, drop, map}
use Rattle.std.specs.List.{flat_map}
use Rattle.kapi_manifests.specs.Dangling.{dangling, dangling_if, origin_of}
use Rattle.kapi_manifests.proofs.dangling.dangling_bindings.Given as goal

abbrev pub invariant-loop-manifest : goal.invariant-loop-manifest
invariant-loop-manifest l = map origin_of l.found.items ++ flat_map (dangling_if l.keys.entries) (drop l.manifest-index l.objects) ≡ dangling l.others l.objects
