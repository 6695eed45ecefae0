use Rattle.std.proofs.Common.{◌++◌, ◌∙◌}
use Rattle.kapi_missing.proofs.Counted.{all_entries, is_met, last_met, row_at}
use Rattle.kapi_missing.proofs.tree.count_last.Goals as goal

pub loop-entry-preserved : goal.loop-entry-preserved
loop-entry-preserved c = λ all others are none test sees.
    let found = c.counted-left.ensures.met none in
    last_met all test c.args.entries.now c.loop-entry.entry-index c.entry-item.result c.loop-entry-test.true c.entry-item.is
    (is_met all others test c.entry-item.result c.args.rules.now found.0 (row_at (all ++ others) c.args.entries.now c.loop-entry.entry-index c.entry-item.result are c.loop-entry-test.true c.entry-item.is) sees found.1)
    ∙ c.loop-entry.invariant all others are (c.counted-left.ensures.left none) test sees

pub returns : goal.returns
returns c = λ all others are. rw (all_entries c.args.entries.now c.loop-entry.entry-index c.loop-entry-test.false) at (c.loop-entry.invariant all others are)
