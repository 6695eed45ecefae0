use Rattle.std.proofs.Common.{◌+◌, length, refl, subst}
use Rattle.kapi_missing.proofs.Placing.{wanted_number}
use Rattle.kapi_missing.proofs.Wanted.{before, first_held, first_rules, index_split, marked_next, next_numbers, none_yet, others, sees_before, some_more, take_all}
use Rattle.kapi_missing.specs.Private.Grid.{IsMarked}
use Rattle.kapi_missing.proofs.missing_atoms.push_all.Goals as goal

pub loop-position-init : goal.loop-position-init
loop-position-init c = (
  λ n. first_held n (length c.args.held.now) _ (c.in_ok-before.ensures n),
  (
    c.in_ok-grid.ensures.grid,
    λ index. (
      c.in_ok-grid.ensures.columns _ index (wanted_number c.args.held.now c.args.wanted.now),
      (
        subst (λ rules. IsMarked rules c.in_ok-grid.grid.columns c.in_ok-grid.grid.marks.items) (first_rules c.args.held.now c.args.wanted.now) (c.in_ok-grid.ensures.marks _ index (wanted_number c.args.held.now c.args.wanted.now)),
        none_yet c.args.held.now c.args.list.now.items,
      ),
    ),
  ),
)

pub loop-position-preserved : goal.loop-position-preserved
loop-position-preserved c = (
  λ n. next_numbers n (length c.args.held.now) c.loop-position.position _ _ (c.in_ok-set.ensures n) (c.loop-position.invariant.0 n),
  (
    c.in_ok-mark.ensures.grid,
    λ index.
        let was = c.loop-position.invariant.1.1 index in
        let earlier = before c.args.held.now c.args.wanted.now c.args.rules.now index c.loop-position.position in
        let behind = others c.args.held.now c.args.wanted.now c.args.rules.now index c.loop-position.position in
        let split = index_split c.args.held.now c.args.wanted.now c.args.rules.now index c.loop-position.position in (
          rw c.in_ok-mark.ensures.columns was.0,
          (
            marked_next c.args.held.now c.args.wanted.now c.loop-position.position c.index-wanted-position.result c.loop-position.grid.columns c.mark.new.grid.columns c.loop-position.grid.marks.items c.mark.new.grid.marks.items
                (length c.args.held.now + c.loop-position.position) c.loop-position-test.true c.index-wanted-position.is refl c.in_ok-mark.ensures.marks was.0 was.1.0,
            some_more c.args.held.now c.args.wanted.now c.loop-position.position c.index-wanted-position.result c.args.list.now.items c.loop-position.list.items c.push_on_resources.new.list.items
                c.push_on_urls.new.list.items c.loop-position-test.true c.index-wanted-position.is was.1.1
                (c.in_ok-push_on_resources.ensures earlier behind split
                (sees_before c.args.held.now c.args.wanted.now c.args.rules.now index c.loop-position.position c.as_slice.result.now c.loop-position-test.true (rw c.as_slice.ensures.value c.loop-position.invariant.0)) was.1.0)
                (c.in_ok-push_on_urls.ensures earlier behind split
                (sees_before c.args.held.now c.args.wanted.now c.args.rules.now index c.loop-position.position c.as_slice-in-loop-position.result.now c.loop-position-test.true
                (rw c.as_slice-in-loop-position.ensures.value c.loop-position.invariant.0))),
          ),
        ),
  ),
)

pub returns : goal.returns
returns c = λ index. rw (take_all c.args.wanted.now c.loop-position.position c.loop-position-test.false) at ((c.loop-position.invariant.1.1 index).1.1)
