use Rattle.std.proofs.Common.{List, subst}
use Rattle.kapi_paths.specs.Numbers.{IsOnce}
use Rattle.kapi_paths.specs.declared.node.Node.{Node}
use Rattle.kapi_paths.proofs.Numbering.{numbers_once}
use Rattle.kapi_paths.proofs.graph.Numbered.len.Goals as goal

pub returns-clause-once : goal.returns-clause-once
returns-clause-once c = subst (λ (nodes : List Node). IsOnce nodes) c.self.view_is (numbers_once c.self.inside.numbers c.self.inside.nodes.items c.self.invariant)
