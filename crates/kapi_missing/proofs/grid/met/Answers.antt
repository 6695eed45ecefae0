use Rattle.std.proofs.Common.{◌∙◌, sym}
use Rattle.kapi_missing.proofs.Gridding.{all_columns, met_more, met_none}
use Rattle.kapi_missing.proofs.grid.met.Goals as goal
use Rattle.kapi_missing.proofs.grid.met.Goals.{then-is_set+in_ok-push, else-is_set}

pub loop-place-preserved : goal.loop-place-preserved
loop-place-preserved c =
    elim c.if-is_set.branch [
      | then-is_set+in_ok-push w ↦
          rw w.places-is (met_more c.args.columns.now c.loop-place.place c.index-columns-place.result c.args.number c.loop-place.places.items w.push.new.self.items c.loop-place-test.true c.index-columns-place.is
          (rw c.as_slice.ensures.value at (sym c.is_set.ensures ∙ w.if-is_set.true)) w.in_ok-push.ensures.items c.loop-place.invariant)
      | else-is_set w ↦
          rw w.places-is (met_none c.args.columns.now c.loop-place.place c.index-columns-place.result c.args.number c.loop-place.places.items c.loop-place-test.true c.index-columns-place.is
          (rw c.as_slice.ensures.value at (sym c.is_set.ensures ∙ w.if-is_set.false)) c.loop-place.invariant)
    ]

pub returns-clause-those : goal.returns-clause-those
returns-clause-those c = λ p. all_columns c.args.columns.now c.loop-place.place p c.args.number _ c.loop-place-test.false (c.loop-place.invariant.0 p)

pub returns-clause-bound : goal.returns-clause-bound
returns-clause-bound c = c.loop-place.invariant.1
