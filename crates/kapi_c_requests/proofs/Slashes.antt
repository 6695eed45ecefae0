-- The texts before and after the first slash of a text that has none.
use Rattle.std.proofs.Common.{◌≡◌, ℕ, List, [], length, take, ◌==◌, arith}
use Rattle.std.proofs.Math.Seq.{take-length}
use Rattle.std.proofs.Math.ListN.{drop_of_length-le}
use Rattle.std.specs.List.{after_first, before_first, position_or_len}

taken_whole : (xs : List ℕ) (n : ℕ) → n ≡ length xs → take n xs ≡ xs
taken_whole xs n h = rw h (take-length xs)

pub all_before : (s : List ℕ) → position_or_len (λ b. b == 47) s ≡ length s → before_first (λ b. b == 47) s ≡ s
all_before s h = taken_whole s _ h

pub none_after : (s : List ℕ) → position_or_len (λ b. b == 47) s ≡ length s → after_first (λ b. b == 47) s ≡ []
none_after s h = drop_of_length-le s (omega (arith, h))
