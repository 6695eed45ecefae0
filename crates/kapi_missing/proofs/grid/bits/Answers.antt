use Rattle.std.proofs.Common.{◌==◌, ◌||◌, ◌∙◌, ap, get_or, sym}
use Rattle.kapi_missing.proofs.Gridding.{all_numbers, below_at, bit_more, next_number}
use Rattle.kapi_missing.specs.Private.Numbers.{has_number}
use Rattle.kapi_missing.proofs.grid.bits.Goals as goal

pub returns : goal.returns
returns c = λ n less. c.loop-place.invariant n less ∙ ap (λ l. has_number l n) (all_numbers c.args.places.now c.loop-place.place-index c.loop-place-test.false)

pub loop-place-preserved : goal.loop-place-preserved
loop-place-preserved c = λ n less.
    bit_more c.loop-place.bits (get_or c.args.places.now c.loop-place.place-index 0) n (below_at 64 c.args.places.now c.loop-place.place-index c.requires c.loop-place-test.true) less
    ∙ ap (λ b. b || (get_or c.args.places.now c.loop-place.place-index 0 == n)) (c.loop-place.invariant n less)
    ∙ sym (next_number c.args.places.now c.loop-place.place-index n c.loop-place-test.true)
