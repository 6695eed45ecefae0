use Rattle.std.proofs.Common.{◌∙◌, ◌||◌, ◌*◌, ◌+◌, ap, get_or}
use Rattle.kapi_missing.proofs.Gridding.{below_at, below_more, next_number, places_below, places_unique, rows_more}
use Rattle.kapi_missing.specs.Private.Numbers.{has_number}
use Rattle.kapi_missing.proofs.grid.rows_below.Goals as goal

pub push_rows-requires-clause-places : goal.push_rows-requires-clause-places
push_rows-requires-clause-places c = below_more c.args.size 64 c.args.places.now c.requires.size c.requires.places

pub loop-row-preserved : goal.loop-row-preserved
loop-row-preserved c =
    let row = get_or c.args.rows.now c.loop-row.row-index 0 in (
      λ p q less.
          rows_more _ _ _ _ _ _
          (c.in_ok-push_rows.ensures.those (p * c.args.size + q) ∙ ap (λ t. has_number c.loop-row.below.items (p * c.args.size + q) || t) (places_unique c.args.size row p q c.args.places.now c.requires.places less))
          (c.loop-row.invariant.0 p q less) (next_number c.args.rows.now c.loop-row.row-index p c.loop-row-test.true),
      λ b are.
          c.in_ok-push_rows.ensures.bound (b * c.args.size) (c.loop-row.invariant.1 b are)
          (places_below c.args.size row b c.args.places.now (below_at b c.args.rows.now c.loop-row.row-index are c.loop-row-test.true) c.requires.places),
    )
