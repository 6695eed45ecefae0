use Rattle.serde_json.specs.View.{view}
use Rattle.kapi_answer.proofs.Merged.{merged_in_order, merged_nests}
use Rattle.kapi_answer.proofs.update.merge.Goals as goal

pub returns-clause-ordered : goal.returns-clause-ordered
returns-clause-ordered c =
    rw c.in_ok-merged.ensures (merged_in_order (view c.in_ok-tree.tree) (view c.args.patch.now) (rw c.in_ok-tree.ensures.tree c.tree.ensures.ordered) c.requires.ordered)

pub returns-clause-nests : goal.returns-clause-nests
returns-clause-nests c =
    rw c.in_ok-merged.ensures (merged_nests 127 (view c.in_ok-tree.tree) (view c.args.patch.now) c.in_ok-tree.ensures.nests c.requires.nests)
