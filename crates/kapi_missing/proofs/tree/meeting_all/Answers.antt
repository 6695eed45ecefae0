use Rattle.kapi_missing.proofs.Counted.{all_entries, full_more, next_entries, row_at}
use Rattle.kapi_missing.specs.Private.Left.{entries_in, item}
use Rattle.kapi_missing.specs.Private.Numbers.{some_has}
use Rattle.std.proofs.Common.{◌++◌, take}
use Rattle.kapi_missing.proofs.tree.meeting_all.Goals as goal

pub loop-entry-preserved : goal.loop-entry-preserved
loop-entry-preserved c = λ all others test sees are.
    rw (next_entries c.args.entries.now c.loop-entry.entry-index c.entry-item.result c.loop-entry-test.true c.entry-item.is)
    (full_more all others test (entries_in (take c.loop-entry.entry-index c.args.entries.now)) (item c.entry-item.result.part) c.loop-entry.full.items c.in_ok-full.full.items
    (some_has c.entry-item.result.row.items) (rw (← c.as_slice.ensures.value, ← c.as_slice-in-loop-entry.ensures.value) c.in_ok-full.ensures)
    (row_at (all ++ others) c.args.entries.now c.loop-entry.entry-index c.entry-item.result are c.loop-entry-test.true c.entry-item.is) (c.loop-entry.invariant all others test sees are))

pub returns : goal.returns
returns c = λ all others test sees are.
    rw (all_entries c.args.entries.now c.loop-entry.entry-index c.loop-entry-test.false) at (c.loop-entry.invariant all others test sees are)
