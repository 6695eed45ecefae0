use Rattle.std.proofs.Common.{◌⊎◌}
use Rattle.kapi_paths.specs.Chains.{Has}
use Rattle.kapi_paths.specs.Graphs.{AreAt, Begins}
use Rattle.kapi_paths.specs.declared.node.Node.{Node}
use Rattle.kapi_paths.proofs.graph.Numbered.row.Given as goal

abbrev pub invariant-loop-node : goal.invariant-loop-node
invariant-loop-node l = record {
  at : AreAt l.self l.row.items l.yielded;
  more : Begins l.initial.self l.self;
  came : (x : Node) → Has l.self x → Has l.initial.self x ⊎ Has l.yielded x;
}
