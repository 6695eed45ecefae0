use Rattle.std.proofs.Common.{◌≡◌, ◌++◌, map, drop}
use Rattle.kapi_manifests.specs.Files.{data_of}
use Rattle.kapi_manifests.specs.DefaultObjects.{model_of_object, defaults_among}
use Rattle.kapi_manifests.proofs.default_objects.defaults_beside.Given as goal

abbrev pub invariant-loop-one : goal.invariant-loop-one
invariant-loop-one l =
    map data_of l.found.items ++ defaults_among (map data_of l.objects) (map model_of_object (drop l.one-index l.begun))
    ≡ defaults_among (map data_of l.objects) (map model_of_object l.begun)
