use Rattle.std.proofs.Common.{◌≡◌, take}
use Rattle.std.specs.List.{fold}
use Rattle.kapi_paths.specs.Levels.{visited}
use Rattle.kapi_paths.proofs.search.Front.pass_row.Given as goal

abbrev pub invariant-loop-node : goal.invariant-loop-node
invariant-loop-node l = l.self ≡ fold (visited l.found) l.initial.self (take l.node-index l.nodes)
