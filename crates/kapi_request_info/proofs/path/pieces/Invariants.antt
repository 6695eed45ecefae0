use Rattle.std.proofs.Common.{◌≡◌, ◌==◌, ◌++◌, drop, length, map}
use Rattle.std.specs.List.{slice_split}
use Rattle.percent_encoding.specs.Percent.{percent_decode}
use Rattle.kapi_request_info.proofs.path.pieces.Given as goal

abbrev pub invariant-loop-piece : goal.invariant-loop-piece
invariant-loop-piece l =
    l.pieces.items ++ map percent_decode (slice_split (λ b. b == 47) l.rest) ≡ map percent_decode (slice_split (λ b. b == 47) (drop 1 l.path))

abbrev pub decreases-loop-piece : goal.decreases-loop-piece
decreases-loop-piece l = length l.rest
