use Rattle.std.proofs.Common.{map}
use Rattle.kapi_manifests.specs.Files.{Takes, data_of}
use Rattle.kapi_manifests.proofs.sorted.Sorted.take_all.Given as goal

abbrev pub invariant-loop-manifest : goal.invariant-loop-manifest
invariant-loop-manifest l = Takes l.options l.initial.self l.self (map data_of l.yielded) 0
