use Rattle.std.proofs.Common.{◌≡◌, drop, map}
use Rattle.std.specs.List.{list_any}
use Rattle.kapi_manifests.specs.Files.{data_of}
use Rattle.kapi_manifests.specs.DefaultObjects.{is_same, model_of_object}
use Rattle.kapi_manifests.proofs.default_objects.is_among.Given as goal

abbrev pub invariant-loop-object : goal.invariant-loop-object
invariant-loop-object l = list_any (is_same (model_of_object l.one)) (map data_of (drop l.object-index l.objects)) ≡ list_any (is_same (model_of_object l.one)) (map data_of l.objects)
