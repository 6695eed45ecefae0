-- The lines of a file.
use Rattle.std.specs.Prelude.{ℕ, ◌+◌, ◌==◌, Bool, ◌||◌, if◌then◌else◌, List, [], ◌∷◌, ◌++◌, length, slice_index}
use Rattle.std.specs.List.{slice_split}
use Rattle.kapi_lines.specs.declared.line.Line.{Line}

-- a line, and its number among all lines of its file
pub record NumberedLine : Type 0 where
  pub number : ℕ
  pub text : List ℕ

-- an empty line, or a comment, which begins with `#`
abbrev pub is_skipped : List ℕ → Bool
is_skipped line = length line == 0 || slice_index line 0 == 35

-- a line with its number, unless it is skipped
abbrev pub numbered : ℕ → List ℕ → List NumberedLine
numbered n line = if is_skipped line then [] else record { number = n; text = line } ∷ []

-- lines that are not skipped; the number of the first of all is n
unfoldable pub numbered_from : ℕ → List (List ℕ) → List NumberedLine
numbered_from n [] = []
numbered_from n (line ∷ lines) = numbered n line ++ numbered_from (n + 1) lines

-- a file's lines end at LF, which the last may lack
abbrev pub parts_of : List ℕ → List (List ℕ)
parts_of text = slice_split (λ b. b == 10) text

-- the lines of a file that are neither empty nor comments
abbrev pub lines_of : List ℕ → List NumberedLine
lines_of text = numbered_from 1 (parts_of text)

-- a line that was read
abbrev pub line_of : Line → NumberedLine
line_of l = record { number = l.number; text = l.text.now }
