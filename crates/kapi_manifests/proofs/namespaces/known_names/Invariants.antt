use Rattle.std.proofs.Common.{◌≡◌, drop}
use Rattle.kapi_manifests.specs.Made.{known, with_names}
use Rattle.kapi_manifests.proofs.namespaces.known_names.Given as goal

abbrev pub invariant-loop-namespace : goal.invariant-loop-namespace
invariant-loop-namespace l = with_names l.names.entries (drop l.namespace-index l.namespaces) ≡ known l.namespaces
