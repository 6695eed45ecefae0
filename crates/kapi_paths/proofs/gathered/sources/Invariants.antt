use Rattle.std.proofs.Common.{◌≡◌, map, take}
use Rattle.std.specs.List.{flat_map}
use Rattle.kapi_policy.specs.Views.{binding_of}
use Rattle.kapi_paths.specs.Sources.{subjects_of}
use Rattle.kapi_paths.proofs.gathered.sources.Given as goal

abbrev pub invariant-loop-binding : goal.invariant-loop-binding
invariant-loop-binding l = l.list.items ≡ flat_map subjects_of (map binding_of (take l.binding-index l.bindings))
