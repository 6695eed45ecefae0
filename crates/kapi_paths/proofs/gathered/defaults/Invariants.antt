use Rattle.std.proofs.Common.{◌≡◌, ◌++◌, map, take}
use Rattle.std.specs.List.{flat_map}
use Rattle.kapi_policy.specs.Views.{binding_of}
use Rattle.kapi_paths.specs.Gathered.{default_in}
use Rattle.kapi_paths.proofs.gathered.defaults.Given as goal

abbrev pub invariant-loop-binding : goal.invariant-loop-binding
invariant-loop-binding l =
    l.list.items ≡ l.initial.list.items ++ flat_map (λ b. default_in b.namespace) (map binding_of (take l.binding-index l.bindings))
