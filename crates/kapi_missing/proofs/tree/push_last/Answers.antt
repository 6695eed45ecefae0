use Rattle.std.proofs.Common.{◌∙◌, [], ◌++◌}
use Rattle.kapi_missing.proofs.Counted.{all_entries, listed_more, row_at}
use Rattle.kapi_missing.specs.Private.Left.{items_in}
use Rattle.kapi_missing.proofs.tree.push_last.Goals as goal

pub loop-entry-preserved : goal.loop-entry-preserved
loop-entry-preserved c = (
  c.in_ok-push_unmet.ensures.chosen ∙ c.loop-entry.invariant.0,
  λ all others test sees are.
      listed_more all others test [] c.args.entries.now c.loop-entry.entry-index c.entry-item.result (items_in c.args.chosen.now.items) c.args.list.now.items c.loop-entry.list.items
      c.push_unmet.new.list.items c.loop-entry-test.true c.entry-item.is (c.loop-entry.invariant.1 all others test sees are)
      (rw (← c.loop-entry.invariant.0) (c.in_ok-push_unmet.ensures.list all others test sees
      (row_at (all ++ others) c.args.entries.now c.loop-entry.entry-index c.entry-item.result are c.loop-entry-test.true c.entry-item.is))),
)

pub returns-clause-list : goal.returns-clause-list
returns-clause-list c = λ all others test sees are.
    rw (all_entries c.args.entries.now c.loop-entry.entry-index c.loop-entry-test.false) at (c.loop-entry.invariant.1 all others test sees are)
