use Rattle.std.proofs.Common.{◌≡◌, take}
use Rattle.std.specs.List.{flat_map}
use Rattle.kapi_paths.specs.Gathered.{user_named}
use Rattle.kapi_paths.proofs.gathered.users.Given as goal

abbrev pub invariant-loop-node : goal.invariant-loop-node
invariant-loop-node l = l.list.items ≡ flat_map (λ n. user_named n.kind n.name) (take l.node-index l.subjects)
