use Rattle.std.proofs.Common.{◌≡◌, drop}
use Rattle.kapi_manifests.specs.Dangling.{with_roles}
use Rattle.kapi_manifests.proofs.dangling.add_roles.Given as goal

abbrev pub invariant-loop-manifest : goal.invariant-loop-manifest
invariant-loop-manifest l = with_roles l.keys.entries (drop l.manifest-index l.objects) ≡ with_roles l.initial.keys.entries l.objects
