-- What is answered to a call, and what the caller finds behind it.
use Rattle.std.specs.Prelude.{◌≡◌, ℕ, ◌<◌, ◌==◌, Bool, true, false, if◌then◌else◌, List, [], ◌++◌, length, drop, Result, Ok, Err}
use Rattle.kapi_text.specs.ResultIs.{◌>>=◌}
use Rattle.kapi_policy.specs.Decided.{Decided, allowed, decided, denied, masters}
use Rattle.kapi_engine.specs.Lines.{decision_line}
use Rattle.kapi_engine.specs.declared.loaded_policy.LoadedPolicy.{LoadedPolicy}
use Rattle.kapi_c_requests.specs.declared.answering.Answer.{Answer}
use Rattle.kapi_c_requests.specs.declared.fault.CallFault.{CallFault}
use Rattle.kapi_c_requests.specs.declared.fault.CallFault.TheVariants as fault
use Rattle.kapi_c_requests.specs.declared.passed.Call.{Call}
use Rattle.kapi_c_requests.specs.declared.reading.AccessQuestion.{AccessQuestion}
use Rattle.kapi_c_requests.specs.Faults.{code_of}
use Rattle.kapi_c_requests.specs.Given.{Given}
use Rattle.kapi_c_requests.specs.Lists.{ArePaths, listed, paths_given, settled_with}
use Rattle.kapi_c_requests.specs.Questions.{question_of}

-- the number of a decision: 0 denies
abbrev pub number_of : Decided → ℕ
number_of denied = 0
number_of (allowed g) = 1
number_of masters = 2

-- what is decided of what is asked
abbrev pub decided_of : LoadedPolicy → AccessQuestion → Decided
decided_of loaded asked = decided loaded.policy asked.identity asked.namespace asked.point

abbrev pub number_alone : Decided → Given
number_alone d = record { number = number_of d; text = [] }

abbrev pub with_line : Decided → Given
with_line d = record { number = number_of d; text = decision_line d }

-- what is answered: whether the roles are settled, a decision, a decision and its line, or a text; that of paths is given
unfoldable pub given_of : List ℕ → LoadedPolicy → Call → Result Given CallFault
given_of paths loaded call =
    if call.wants == 0 then Ok (settled_with loaded [])
    else (if call.wants == 1 then (question_of call.question >>= λ asked. Ok (number_alone (decided_of loaded asked)))
    else (if call.wants == 2 then (question_of call.question >>= λ asked. Ok (with_line (decided_of loaded asked)))
    else (if call.wants == 7 then paths_given paths loaded call
    else listed loaded call)))

-- the number and the text stand where the caller said, and the room behind the text is as before
abbrev pub IsWritten : Given → Answer → List ℕ → List ℕ → Type 0
IsWritten g new room room' = (new ≡ record { decision = g.number; length = length g.text }) × (room' ≡ g.text ++ drop (length g.text) room)

-- a length is told, and nothing else is written
abbrev pub IsLength : ℕ → Answer → Answer → List ℕ → List ℕ → Type 0
IsLength n old new room room' = (new ≡ record { decision = old.decision; length = n }) × (room' ≡ room)

-- the length that the text needs is told
abbrev pub IsShort : Given → Answer → Answer → List ℕ → List ℕ → Type 0
IsShort g old new room room' =
    (length room < length g.text) × IsLength (length g.text) old new room room'

abbrev pub IsKept : Answer → Answer → List ℕ → List ℕ → Type 0
IsKept old new room room' = (new ≡ old) × (room' ≡ room)

-- by whether the text fits
abbrev pub IsWrittenOrShort : Given → Answer → Answer → List ℕ → List ℕ → Bool → Type 0
IsWrittenOrShort g old new room room' true = IsWritten g new room room'
IsWrittenOrShort g old new room room' false = IsShort g old new room room'

-- how a call ends
pub data End : Type 0 where
  done : End
  short : End
  failed : CallFault → End

-- its status
abbrev pub status_of : End → ℕ
status_of done = 0
status_of short = 5
status_of (failed fault) = code_of fault

-- what the caller finds behind a call that ended so
abbrev pub Ends : Result Given CallFault → Answer → Answer → List ℕ → List ℕ → End → Type 0
Ends given old new room room' done = (g : Given) × (given ≡ Ok g) × IsWritten g new room room'
Ends given old new room room' short = (g : Given) × (given ≡ Ok g) × IsShort g old new room room'
Ends given old new room room' (failed fault.Memory) = IsKept old new room room'
Ends given old new room room' (failed (fault.Line number)) = (given ≡ Err (fault.Line number)) × IsLength number old new room room'
Ends given old new room room' (failed other) = (given ≡ Err other) × IsKept old new room room'

-- if paths are asked for and found, the text is theirs
abbrev pub HasPaths : List ℕ → LoadedPolicy → Call → End → Type 0
HasPaths paths loaded call (failed fault) = Unit {0}
HasPaths paths loaded call end = call.wants ≡ 7 → ArePaths paths loaded call

-- the status says how the call ended, and the caller finds what then stands there
abbrev pub IsAnswered : LoadedPolicy → Call → Answer → Answer → List ℕ → List ℕ → ℕ → Type 0
IsAnswered loaded call old new room room' status =
    (paths : List ℕ) × (end : End) × (status ≡ status_of end) × Ends (given_of paths loaded call) old new room room' end × HasPaths paths loaded call end
