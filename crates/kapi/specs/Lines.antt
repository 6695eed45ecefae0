-- Lines that grow as bytes come in.
use Rattle.std.specs.Prelude.{ℕ, List, [], ◌∷◌, ◌+◌, nat_eq, nat_lt, if◌then◌else◌}

-- the length of a line when one byte more has come; a line of more than 1,048,576 bytes stays
abbrev pub grown : ℕ → ℕ → ℕ
grown n b = if nat_lt 1048576 n then n else (if nat_eq b 10 then 0 else n + 1)

-- the length of the unfinished line after these bytes, or of the first line longer than 1,048,576
abbrev pub line_length : ℕ → List ℕ → ℕ
line_length n [] = n
line_length n (b ∷ bs) = line_length (grown n b) bs
