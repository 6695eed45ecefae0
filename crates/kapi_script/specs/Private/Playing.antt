-- How far a script was played.
use Rattle.std.specs.Prelude.{◌≡◌, ◌==◌, true, false, All, ℕ, ◌+◌, Bool, List, [], ◌++◌, Option, Some, None, Result, Ok, Err}
use Rattle.kapi_core.specs.Machine.{Machine}
use Rattle.kapi_core.specs.Refines.{Refines, Makes, Keeps}
use Rattle.kapi_core.specs.declared.event.Event.{Event}
use Rattle.kapi_core.specs.Running.{Running}
use Rattle.kapi_script.specs.AnswerLines.{answer_line, refused_line}
use Rattle.kapi_script.specs.Scripts.{skipped, bad, told, line_of, lines, said, first_bad_from}
use Rattle.kapi_script.specs.declared.line.LineError.{LineError}
use Rattle.kapi_script.specs.declared.line.LineError.TheVariants as line_error
use Rattle.kapi_script.specs.declared.script.Played.{Played}
use Rattle.kapi_script.specs.declared.script.Played.TheVariants as played
use Rattle.kapi_script.specs.declared.script.Script.{Script}
use Rattle.kapi_script.specs.declared.script.ScriptFault.{ScriptFault}
use Rattle.kapi_script.specs.declared.script.ScriptFault.TheVariants as fault

-- memory ran out while a line was read
abbrev pub wants_memory : LineError → Bool
wants_memory (line_error.NoEvent reason) = false
wants_memory line_error.Memory = true

-- a script that is played: the machine that it begins on, and all its lines
pub record Play : Type 0 where
  pub begun : Machine
  pub lines : List (List ℕ)

-- what a line was, and what the machine made of it
abbrev pub Plays : Running → Running → List ℕ → Played → Type 0
Plays old new line played.Skipped = (line_of line ≡ skipped) × Keeps old new
Plays old new line (played.Bad reason) = line_of line ≡ bad
Plays old new line played.Refused = (event : Event) × (line_of line ≡ told event) × Keeps old new
Plays old new line (played.Answered answer) = (event : Event) × (line_of line ≡ told event) × Makes old new event answer

-- what is written for a line
abbrev pub played_text : Played → List ℕ
played_text played.Skipped = []
played_text (played.Bad reason) = []
played_text played.Refused = refused_line
played_text (played.Answered answer) = answer_line answer

-- of all lines the rest is still to be played, on a machine that was reached; so much was written
pub record Reached (all : Play) (rest : List (List ℕ)) (n : ℕ) (core : Running) (written : List ℕ) : Type 0 where
  pub machine : Machine
  pub stands : Refines core machine
  pub said_so_far : (refused : List Bool) → (whole : List Bool) × (said all.begun all.lines whole ≡ written ++ said machine rest refused)
  pub none_bad : first_bad_from 1 all.lines ≡ first_bad_from (n + 1) rest

-- a script was played so far, by a writer that held some bytes before
abbrev pub ReachedBy : Play → List (List ℕ) → ℕ → Running → List ℕ → Option (List ℕ) → Type 0
ReachedBy all rest n core before contents = (written : List ℕ) × Reached all rest n core written × (contents ≡ Some (before ++ written))

-- a bad line ended the script
abbrev pub Stopped : Play → ℕ → List ℕ → Option (List ℕ) → Type 0
Stopped all n before contents = (refused : List Bool) × (contents ≡ Some (before ++ said all.begun all.lines refused)) × (first_bad_from 1 all.lines ≡ Some n)

-- after a step: the rest is to be played, or a bad line ended it; nothing is said where reading, writing or memory
-- failed
abbrev pub IsPlayedOn : Play → List (List ℕ) → ℕ → Running → List ℕ → Option (List ℕ) → Result (Unit {0}) ScriptFault → Type 0
IsPlayedOn all rest n core before contents (Ok done) = ReachedBy all rest n core before contents
IsPlayedOn all rest n core before contents (Err (fault.BadLine number reason)) = Stopped all number before contents
IsPlayedOn all rest n core before contents (Err e) = Unit {0}

-- the lines were played to their end
abbrev pub Ends : Play → List ℕ → Option (List ℕ) → Result (Unit {0}) ScriptFault → Type 0
Ends all before contents (Ok done) = (refused : List Bool) × (contents ≡ Some (before ++ said all.begun all.lines refused)) × (first_bad_from 1 all.lines ≡ None)
Ends all before contents (Err (fault.BadLine number reason)) = Stopped all number before contents
Ends all before contents (Err e) = Unit {0}

-- in the midst of a line: what was read of it, and the bytes that were not yet read
abbrev pub Reading : Play → List ℕ → Running → Script → List ℕ → Option (List ℕ) → Type 0
Reading all unread core s before contents = All (λ b. (b == 10) ≡ false) s.line.items × ReachedBy all (lines (s.line.items ++ unread)) s.lines core before contents

-- after some bytes more
abbrev pub ReadsOn : Play → List ℕ → Running → Script → List ℕ → Option (List ℕ) → Result (Unit {0}) ScriptFault → Type 0
ReadsOn all unread core s before contents (Ok done) = Reading all unread core s before contents
ReadsOn all unread core s before contents (Err (fault.BadLine number reason)) = Stopped all number before contents
ReadsOn all unread core s before contents (Err e) = Unit {0}
