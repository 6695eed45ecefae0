use Rattle.std.proofs.Common.{◌==◌, ◌||◌, ◌&&◌, ◌/◌, ◌%◌, ◌∙◌, ap}
use Rattle.std.specs.Int.{bit_at}
use Rattle.kapi_missing.proofs.Gridding.{all_numbers}
use Rattle.kapi_missing.specs.Private.Numbers.{has_bit, has_number}
use Rattle.kapi_missing.proofs.grid.mark_rows.Goals as goal

pub returns-clause-bits : goal.returns-clause-bits
returns-clause-bits c = λ n.
    c.loop-row.invariant.1 n
    ∙ ap (λ l. has_bit c.args.marks.now.items n || (has_number l (n / 64) && (bit_at c.args.names (n % 64) == 1))) (all_numbers c.args.rows.now c.loop-row.row-index c.loop-row-test.false)
