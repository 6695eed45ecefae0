-- Lines grow by at most a byte for each byte.
use Rattle.std.proofs.Common.{◌≤◌, ℕ, ◌+◌, Bool, true, false, nat_eq, nat_lt, if◌then◌else◌, List, [], ◌∷◌, length, take, arith}
use Rattle.std.proofs.lemmas.List.{length-take}
use Rattle.kapi.specs.Lines.{grown, line_length}

grown_by_one : (n b : ℕ) → grown n b ≤ n + 1
grown_by_one n b = by_case (nat_lt 1048576 n) (nat_eq b 10)
  where
    by_case : (full ends : Bool) → (if full then n else (if ends then 0 else n + 1)) ≤ n + 1
    by_case true ends = omega (arith)
    by_case false true = omega (arith)
    by_case false false = omega (arith)

grown_by : (n : ℕ) (bytes : List ℕ) → line_length n bytes ≤ n + length bytes
grown_by n [] = omega (arith)
grown_by n (b ∷ bytes) = omega (arith, grown_by_one n b, grown_by (grown n b) bytes)

-- before the last of so many bytes a line is not above the limit
pub stays_short : (n k : ℕ) (bytes : List ℕ) → n + k ≤ 1048576 → line_length n (take k bytes) ≤ 1048576
stays_short n k bytes within = omega (arith, within, grown_by n (take k bytes), length-take k bytes)
