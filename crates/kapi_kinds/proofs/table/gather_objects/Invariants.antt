use Rattle.std.proofs.Common.{◌≡◌, drop, map, option_and_then}
use Rattle.kapi_manifests.specs.Files.{data_of}
use Rattle.kapi_kinds.specs.Tables.{grown, kept}
use Rattle.kapi_kinds.proofs.table.gather_objects.Given as goal

abbrev pub invariant-loop-manifest : goal.invariant-loop-manifest
invariant-loop-manifest l =
    option_and_then (grown 0 (map data_of (drop l.manifest-index l.objects))) (kept l.gathered)
    ≡ option_and_then (grown 0 (map data_of l.objects)) (kept l.initial.gathered)
