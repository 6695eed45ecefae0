-- The path of a target without a query is all of it.
use Rattle.std.proofs.Common.{◌≡◌, ℕ, List, length, take, ◌==◌}
use Rattle.std.proofs.Math.Seq.{take-length}
use Rattle.std.specs.List.{position_or_len}
use Rattle.kapi_suggest.specs.Events.{path_of}

taken_whole : (xs : List ℕ) (n : ℕ) → n ≡ length xs → take n xs ≡ xs
taken_whole xs n h = rw h (take-length xs)

pub all_before : (target : List ℕ) → position_or_len (λ b. b == 63) target ≡ length target → path_of target ≡ target
all_before target h = taken_whole target _ h
