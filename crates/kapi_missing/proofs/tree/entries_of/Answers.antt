use Rattle.kapi_missing.proofs.Counted.{entered, more_rows}
use Rattle.kapi_missing.proofs.tree.entries_of.Goals as goal

pub loop-part-preserved : goal.loop-part-preserved
loop-part-preserved c = (
  entered c.loop-part.entries.items c.push.new.self.items _ c.loop-part.yielded c.in_ok-push.ensures.items c.loop-part.invariant.0,
  λ all index. rw c.in_ok-push.ensures.items (more_rows all c.loop-part.entries.items _ (c.loop-part.invariant.1 all index) (c.in_ok-row.ensures all index)),
)
