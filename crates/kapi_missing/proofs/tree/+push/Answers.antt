use Rattle.std.proofs.Common.{◌∙◌, [], ◌&&◌, ◌∷◌, ◌++◌, arith}
use Rattle.std.proofs.lemmas.Result.{on_ok_weaker}
use Rattle.kapi_missing.proofs.Counted.{all_entries, listed_more, narrowed, no_levels, none_left, row_at}
use Rattle.kapi_missing.proofs.Entered.{items_push}
use Rattle.kapi_missing.specs.Private.Left.{item, items_in, left, lists_in}
use Rattle.kapi_missing.specs.Private.Numbers.{some_has}
use Rattle.kapi_missing.specs.Private.Stoppers.{meets}
use Rattle.kapi_missing.proofs.tree.+push.Goals as goal

pub push_each-loop-entry-preserved : goal.push_each-loop-entry-preserved
push_each-loop-entry-preserved fuel c = (
  c.in_ok-push_below.ensures.chosen ∙ c.loop-entry.invariant.0,
  λ all others test sees rows levels.
      let row = row_at (all ++ others) c.args.entries.now c.loop-entry.entry-index c.entry-item.result rows c.loop-entry-test.true c.entry-item.is in
      let near = narrowed all others test (item c.entry-item.result.part) c.args.rules.now c.in_ok-near.near.items (some_has c.entry-item.result.row.items)
      (rw (← c.as_slice.ensures.value) c.in_ok-near.ensures) row sees in
      listed_more all others test (lists_in (c.args.next.now ∷ c.args.rest.now)) c.args.entries.now c.loop-entry.entry-index c.entry-item.result (items_in c.args.chosen.now.items)
      c.args.list.now.items c.loop-entry.list.items c.push_below.new.list.items c.loop-entry-test.true c.entry-item.is (c.loop-entry.invariant.1 all others test sees rows levels)
      (rw (← c.loop-entry.invariant.0) (c.in_ok-push_below.ensures.list all others (λ s. test s && meets (item c.entry-item.result.part) s) (rw c.as_slice-in-loop-entry.ensures.value near) levels)),
)

pub push_each-returns-clause-list : goal.push_each-returns-clause-list
push_each-returns-clause-list fuel c = λ all others test sees rows levels.
    rw (all_entries c.args.entries.now c.loop-entry.entry-index c.loop-entry-test.false) at (c.loop-entry.invariant.1 all others test sees rows levels)

pub push-returns-in-None-clause-list : goal.push-returns-in-None-clause-list
push-returns-in-None-clause-list fuel c =
    rw (no_levels c.args.behind.now c.in-None.ensures.cases, ← c.as_slice.ensures.value)
    (on_ok_weaker c.push_last.result (λ listed. λ all others test sees are. listed all others test sees are.0) c.push_last.ensures.list)

pub push-returns-in-Some-clause-list : goal.push-returns-in-Some-clause-list
push-returns-in-Some-clause-list fuel c =
    rw (c.in-Some.ensures.cases.0, ← c.as_slice-in-Some.ensures.value)
    (on_ok_weaker c.push_each.result (λ listed. λ all others test sees are. listed all others test sees are.0 are.2) c.push_each.ensures.list)

pub push_below-returns-in_ok-push-2-clause-list : goal.push_below-returns-in_ok-push-2-clause-list
push_below-returns-in_ok-push-2-clause-list fuel c = λ all others test sees levels.
    rw (← items_push c.args.chosen.now.items c.args.part, ← c.in_ok-push.ensures.items) (c.in_ok-push-2.ensures.list all others test sees levels)

pub push_below-returns-else-branch-gt0-clause-list : goal.push_below-returns-else-branch-gt0-clause-list
push_below-returns-else-branch-gt0-clause-list fuel c = λ all others test sees levels.
    none_left (items_in c.args.chosen.now.items ++ item c.args.part ∷ []) (left all test (lists_in (c.args.next.now ∷ c.args.rest.now))) c.args.list.now.items (c.in_ok-count.ensures all others levels (let none = c.if-branch-gt0.false in omega (arith, none)) test sees)
