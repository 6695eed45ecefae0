-- What stands before and after the first of some byte in a text that has none.
use Rattle.std.proofs.Common.{◌≡◌, ℕ, List, [], length, take, ◌==◌, arith}
use Rattle.std.proofs.Math.Seq.{take-length}
use Rattle.std.proofs.Math.ListN.{drop_of_length-le}
use Rattle.std.specs.List.{position_or_len}
use Rattle.kapi_access.specs.Questions.{after, before}

taken_whole : (xs : List ℕ) (n : ℕ) → n ≡ length xs → take n xs ≡ xs
taken_whole xs n h = rw h (take-length xs)

pub all_before : (byte : ℕ) (s : List ℕ) → position_or_len (λ b. b == byte) s ≡ length s → before byte s ≡ s
all_before byte s h = taken_whole s _ h

pub none_after : (byte : ℕ) (s : List ℕ) → position_or_len (λ b. b == byte) s ≡ length s → after byte s ≡ []
none_after byte s h = drop_of_length-le s (omega (arith, h))
