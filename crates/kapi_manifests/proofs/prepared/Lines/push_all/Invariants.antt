use Rattle.std.proofs.Common.{◌++◌, List, map, take}
use Rattle.serde_json.specs.Data.{Data}
use Rattle.kapi_manifests.specs.Files.{data_of}
use Rattle.kapi_manifests.specs.Written.{AreOf}
use Rattle.kapi_manifests.proofs.prepared.Lines.push_all.Given as goal

abbrev pub invariant-loop-manifest : goal.invariant-loop-manifest
invariant-loop-manifest l = (ds : List Data) → AreOf l.initial.self ds → AreOf l.self (ds ++ map data_of (take l.manifest-index l.manifests))
