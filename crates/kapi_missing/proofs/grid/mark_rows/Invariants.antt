use Rattle.std.proofs.Common.{◌≡◌, ◌==◌, ◌/◌, ◌%◌, ◌&&◌, ◌||◌, ℕ, take, length}
use Rattle.std.specs.Int.{bit_at}
use Rattle.kapi_missing.specs.Private.Numbers.{has_bit, has_number}
use Rattle.kapi_missing.proofs.grid.mark_rows.Given as goal

abbrev pub invariant-loop-row : goal.invariant-loop-row
invariant-loop-row l = (length l.marks.items ≡ length l.initial.marks.items)
    × ((n : ℕ) → has_bit l.marks.items n ≡ (has_bit l.initial.marks.items n || (has_number (take l.row-index l.rows) (n / 64) && (bit_at l.names (n % 64) == 1))))
