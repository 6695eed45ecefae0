use Rattle.std.proofs.Common.{◌≡◌, ◌++◌, map}
use Rattle.std.specs.List.{flat_map}
use Rattle.kapi_manifests.specs.Files.{data_of}
use Rattle.kapi_manifests.specs.Made.{made, made_if}
use Rattle.kapi_manifests.proofs.namespaces.made_namespaces.Given as goal

abbrev pub invariant-loop-name : goal.invariant-loop-name
invariant-loop-name l =
    map data_of l.made.items ++ flat_map (λ need. made_if l.known.entries need.0) l.name-iterator ≡ made l.table l.namespaces l.objects
