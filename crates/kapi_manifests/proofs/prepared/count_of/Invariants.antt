use Rattle.std.proofs.Common.{◌≡◌, ◌+◌, ◌≤◌, drop, filter, length, map}
use Rattle.kapi_manifests.specs.Files.{data_of}
use Rattle.kapi_manifests.specs.Written.{is_either}
use Rattle.kapi_manifests.proofs.prepared.count_of.Given as goal

abbrev pub invariant-loop-manifest : goal.invariant-loop-manifest
invariant-loop-manifest l = record {
  counted : l.count + length (filter (is_either l.kind l.other) (map data_of (drop l.manifest-index l.objects))) ≡ length (filter (is_either l.kind l.other) (map data_of l.objects));
  small : l.count ≤ l.manifest-index;
}
