use Rattle.std.proofs.Common.{◌≡◌, ◌+◌, length, subst, take, arith}
use Rattle.kapi_missing.proofs.Gridding.{taken_marked}
use Rattle.kapi_missing.proofs.Wanted.{sees_all}
use Rattle.kapi_missing.specs.Private.Grid.{IsMarked}
use Rattle.kapi_missing.proofs.grid.grid_of.Goals as goal

pub loop-number-init : goal.loop-number-init
loop-number-init c = (
  c.in_ok-grid.ensures.grid,
  (
    λ all index long.
        c.in_ok-grid.ensures.columns all
        (c.in_ok-columns.ensures.columns all index (rw c.as_slice.ensures.value (sees_all all c.in_ok-everyone.everyone.items (length c.args.held.now + length c.args.wanted.now) long c.in_ok-everyone.ensures))),
    λ all index long. c.in_ok-grid.ensures.marks,
  ),
)

pub loop-number-preserved : goal.loop-number-preserved
loop-number-preserved c = (
  c.in_ok-mark.ensures.grid,
  (
    λ all index long. rw c.in_ok-mark.ensures.columns (c.loop-number.invariant.1.0 all index long),
    λ all index long.
        taken_marked all c.loop-number.number c.loop-number.grid.columns c.mark.new.grid.columns c.loop-number.grid.marks.items c.mark.new.grid.marks.items
        (let within = c.loop-number-test.true in omega (arith, within, long)) c.in_ok-mark.ensures.marks (c.loop-number.invariant.1.0 all index long) (c.loop-number.invariant.1.1 all index long),
  ),
)

pub returns-clause-marks : goal.returns-clause-marks
returns-clause-marks c = λ all index long.
    let past = c.loop-number-test.false in
    let end = c.loop-number.auto.number-end in
    let e : c.loop-number.number ≡ length c.args.held.now = omega (arith, past, end) in
    subst (λ k. IsMarked (take k all) c.loop-number.grid.columns c.loop-number.grid.marks.items) e (c.loop-number.invariant.1.1 all index long)
