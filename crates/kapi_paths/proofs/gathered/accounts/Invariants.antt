use Rattle.std.proofs.Common.{◌≡◌, ◌++◌, take}
use Rattle.std.specs.List.{flat_map}
use Rattle.kapi_paths.specs.Gathered.{account_named}
use Rattle.kapi_paths.proofs.gathered.accounts.Given as goal

abbrev pub invariant-loop-node : goal.invariant-loop-node
invariant-loop-node l =
    l.list.items ≡ l.initial.list.items ++ flat_map (λ n. account_named n.kind n.place n.name) (take l.node-index l.subjects)
