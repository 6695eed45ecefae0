-- The answers to a script: line by line, by the model.
use Rattle.std.specs.Prelude.{◌≡◌, ℕ, ◌+◌, ◌==◌, Bool, true, false, ◌||◌, if◌then◌else◌, List, [], ◌∷◌, ◌++◌, length, slice_index, drop, Option, Some, None}
use Rattle.std.specs.List.{slice_split}
use Rattle.kapi_core.specs.Machine.{Machine, step}
use Rattle.kapi_core.specs.Opening.{opening}
use Rattle.kapi_core.specs.declared.event.Event.{Event}
use Rattle.kapi_script.specs.AnswerLines.{answer_line, refused_line}
use Rattle.kapi_script.specs.Events.{line_event}
use Rattle.kapi_model.specs.declared.row.ResourceRow.{ResourceRow}

-- lines end at LF; the last may lack it
abbrev pub lines : List ℕ → List (List ℕ)
lines text = slice_split (λ b. b == 10) text

-- a line: empty or a comment, of no known form, or an event
pub data Line : Type 0 where
  skipped : Line
  bad : Line
  told : Event → Line

-- the line of the event that was read, if one was
abbrev pub told_if : Option Event → Line
told_if None = bad
told_if (Some e) = told e

-- what a line is: `#` begins a comment
unfoldable pub line_of : List ℕ → Line
line_of l = if length l == 0 || slice_index l 0 == 35 then skipped else told_if (line_event l)

-- the line has no known form
abbrev pub is_bad : Line → Bool
is_bad skipped = false
is_bad bad = true
is_bad (told e) = false

-- what is written for a line, and the machine after it; if it runs out of memory, the event was not made
abbrev pub written_for : Line → Bool → Machine → List ℕ
written_for skipped refused m = []
written_for bad refused m = []
written_for (told e) refused m = if refused then refused_line else answer_line (step m e).0

-- the machine after a line
abbrev pub after_line : Line → Bool → Machine → Machine
after_line skipped refused m = m
after_line bad refused m = m
after_line (told e) refused m = if refused then m else (step m e).1

-- whether the first line runs out of memory
abbrev pub is_refused : List Bool → Bool
is_refused [] = false
is_refused (r ∷ rs) = r

-- what is written for lines, up to the first bad one; `refused` says of each line whether it runs out of memory
unfoldable pub said : Machine → List (List ℕ) → List Bool → List ℕ
said m [] refused = []
said m (l ∷ ls) refused =
    if is_bad (line_of l) then []
    else written_for (line_of l) (is_refused refused) m ++ said (after_line (line_of l) (is_refused refused) m) ls (drop 1 refused)

-- the number of the first bad line, counted from n
unfoldable pub first_bad_from : ℕ → List (List ℕ) → Option ℕ
first_bad_from n [] = None
first_bad_from n (l ∷ ls) = if is_bad (line_of l) then Some n else first_bad_from (n + 1) ls

-- the machine that a script is played on
abbrev pub start : List ResourceRow → Machine
start table = opening table 0

-- the number of the first bad line of a script, from 1
abbrev pub first_bad : List ℕ → Option ℕ
first_bad text = first_bad_from 1 (lines text)

-- behind what was written before come the answers of a machine to the lines of a script, some of which run out of
-- memory; and the first bad line has that number, or there is none
abbrev pub IsAnsweredBy : Machine → List ℕ → List ℕ → Option (List ℕ) → Option ℕ → Type 0
IsAnsweredBy m text before contents number =
    (refused : List Bool) × (contents ≡ Some (before ++ said m (lines text) refused)) × (first_bad text ≡ number)

-- behind what was written before come the answers of the machine that a script is played on to the script's lines
abbrev pub IsAnswered : List ResourceRow → List ℕ → List ℕ → Option (List ℕ) → Option ℕ → Type 0
IsAnswered table text before contents number = IsAnsweredBy (start table) text before contents number
