use Rattle.std.proofs.Common.{◌∷◌, arith}
use Rattle.kapi_missing.proofs.Counted.{all_entries, counted_more, covered, more_classes, no_levels}
use Rattle.kapi_missing.proofs.Placing.{if_ok}
use Rattle.kapi_missing.specs.Private.Left.{lists_in}
use Rattle.kapi_missing.proofs.tree.+count.Goals as goal

pub count-returns-then-shares : goal.count-returns-then-shares
count-returns-then-shares fuel c = λ all others are none test sees.
    let found = c.shares.ensures.found c.if-shares.true in
    covered all test (lists_in (c.args.level.now ∷ c.args.behind.now)) c.args.rules.now c.as_slice.result.now found.0 sees (rw c.as_slice.ensures.value are.1) found.1

pub count_below-returns-in-Some : goal.count_below-returns-in-Some
count_below-returns-in-Some fuel c = λ all others levels classes.
    (classes, rw (← c.as_slice-2.ensures.value) (c.in-Some.ensures all (lists_in (c.args.next.now ∷ c.args.rest.now)) (rw c.as_slice.ensures.value classes)))

pub count_below-returns-in_ok-push : goal.count_below-returns-in_ok-push
count_below-returns-in_ok-push fuel c = λ all others levels classes.
    let counted = rw c.as_slice-3.ensures.value at (c.in_ok-left.ensures all others levels) in
    (rw c.in_ok-push.ensures.items (more_classes all (lists_in (c.args.next.now ∷ c.args.rest.now)) c.args.classes.now.items _ classes counted), counted)

pub count_below-returns-else-len-lt-CLASSES : goal.count_below-returns-else-len-lt-CLASSES
count_below-returns-else-len-lt-CLASSES fuel c = λ all others levels classes. (classes, rw c.as_slice-3.ensures.value at (c.in_ok-left.ensures all others levels))

pub count_each-returns : goal.count_each-returns
count_each-returns fuel c = λ all others rows levels.
    rw (all_entries c.args.entries.now c.loop-entry.entry-index c.loop-entry-test.false) at ((c.loop-entry.invariant all others rows levels).1)

pub count-returns-in-None : goal.count-returns-in-None
count-returns-in-None fuel c = λ all others are none test sees.
    rw (no_levels c.args.behind.now c.in-None.ensures.cases, ← c.as_slice-in-None.ensures.value)
    (c.count_last.ensures all others (rw c.as_slice-in-None.ensures.value are.0) none test sees)

pub count-returns-in-Some : goal.count-returns-in-Some
count-returns-in-Some fuel c =
    rw c.in-Some.ensures.cases.0 (if_ok c.count_each.result (λ n counted all others are.
    rw c.as_slice-in-Some.ensures.value at (counted all others (rw c.as_slice-in-Some.ensures.value are.0) are.2)) c.count_each.ensures)

pub count_each-loop-entry-preserved : goal.count_each-loop-entry-preserved
count_each-loop-entry-preserved fuel c = λ all others rows levels.
    let before = c.loop-entry.invariant all others rows levels in
    let below = c.in_ok-count_below.ensures all others levels before.0 in (
      below.0,
      counted_more all others (lists_in (c.args.next.now ∷ c.args.rest.now)) c.args.entries.now c.loop-entry.entry-index c.entry-item.result c.args.rules.now c.in_ok-near.near.items
          c.loop-entry.total c.in_ok-count_below.field-0 c.saturating_add-total.result (let sum = c.saturating_add-total.ensures in λ none. (omega (arith, sum, none), omega (arith, sum, none)))
          c.loop-entry-test.true c.entry-item.is rows (rw (← c.as_slice.ensures.value) c.in_ok-near.ensures) below.1 before.1,
    )
