use Rattle.std.proofs.Common.{◌==◌, ◌||◌, ◌+◌, ◌∙◌, ap}
use Rattle.std.specs.List.{list_any}
use Rattle.kapi_missing.proofs.Gridding.{all_numbers}
use Rattle.kapi_missing.specs.Private.Numbers.{has_number}
use Rattle.kapi_missing.proofs.grid.push_rows.Goals as goal

pub returns-clause-those : goal.returns-clause-those
returns-clause-those c = λ x.
    c.loop-place.invariant.0 x
    ∙ ap (λ l. has_number c.args.rows.now.items x || list_any (λ p. (c.args.first + p) == x) l) (all_numbers c.args.places.now c.loop-place.place-index c.loop-place-test.false)

pub returns-clause-bound : goal.returns-clause-bound
returns-clause-bound c = c.loop-place.invariant.1
