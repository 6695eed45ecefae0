use Rattle.std.proofs.Common.{◌≡◌, [], drop}
use Rattle.kapi_manifests.specs.Made.{needed_from}
use Rattle.kapi_manifests.proofs.namespaces.needed_names.Given as goal

abbrev pub invariant-loop-manifest : goal.invariant-loop-manifest
invariant-loop-manifest l = needed_from l.table l.needed.entries (drop l.manifest-index l.objects) ≡ needed_from l.table [] l.objects
