use Rattle.std.proofs.Common.{◌≡◌, ◌==◌, ◌<◌, ℕ, take}
use Rattle.std.specs.Int.{bit_at}
use Rattle.kapi_missing.specs.Private.Numbers.{has_number}
use Rattle.kapi_missing.proofs.grid.bits.Given as goal

abbrev pub invariant-loop-place : goal.invariant-loop-place
invariant-loop-place l = (n : ℕ) → n < 64 → (bit_at l.bits n == 1) ≡ has_number (take l.place-index l.places) n
