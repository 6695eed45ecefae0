use Rattle.std.proofs.Common.{take}
use Rattle.kapi_paths.specs.Graphs.{AreAt}
use Rattle.kapi_paths.proofs.path.nodes_at.Given as goal

abbrev pub invariant-loop-number : goal.invariant-loop-number
invariant-loop-number l = AreAt l.nodes (take l.number-index l.numbers) l.list.items
