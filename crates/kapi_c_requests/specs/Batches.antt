-- Many questions of objects that are loaded for them alone.
use Rattle.std.specs.Prelude.{◌≡◌, ◌≢◌, ℕ, List, length, Result, Ok, Err}
use Rattle.kapi_text.specs.ResultIs.{◌>>=◌}
use Rattle.kapi_loading.specs.Faults.{FileFault, bad_line}
use Rattle.kapi_loading.specs.declared.fault.StartError.{StartError}
use Rattle.kapi_loading.specs.declared.fault.StartError.TheVariants as start
use Rattle.kapi_engine.specs.declared.loaded_policy.LoadedPolicy.{LoadedPolicy}
use Rattle.kapi_c_requests.specs.declared.fault.CallFault.{CallFault}
use Rattle.kapi_c_requests.specs.declared.fault.CallFault.TheVariants as fault
use Rattle.kapi_c_requests.specs.declared.passed.CQuestion.{CQuestion}
use Rattle.kapi_c_requests.specs.Answers.{decided_of, number_of}
use Rattle.kapi_c_requests.specs.Each.{each}
use Rattle.kapi_c_requests.specs.Faults.{code_of}
use Rattle.kapi_c_requests.specs.Questions.{question_of}

-- the number of what is decided of a question
abbrev pub number_in : LoadedPolicy → CQuestion → Result ℕ CallFault
number_in loaded q = question_of q >>= λ asked. Ok (number_of (decided_of loaded asked))

-- those of all questions
abbrev pub numbers_of : LoadedPolicy → List CQuestion → Result (List ℕ) CallFault
numbers_of loaded = each (number_in loaded)

-- how a batch ends
pub data BatchEnd : Type 0 where
  all : BatchEnd
  line : ℕ → BatchEnd
  failed : CallFault → BatchEnd
  uneven : BatchEnd

-- its status
abbrev pub batch_status : BatchEnd → ℕ
batch_status all = 0
batch_status (line number) = 2
batch_status (failed fault) = code_of fault
batch_status uneven = 5

-- the end of a batch whose objects are not loaded
abbrev pub end_of : StartError → BatchEnd
end_of (start.Line number) = line number
end_of start.Memory = failed fault.Memory

-- the line that then stands there
abbrev pub line_after : StartError → ℕ → ℕ
line_after (start.Line number) before = number
line_after start.Memory before = before

-- nothing was written
abbrev pub IsUnwritten : List ℕ → List ℕ → ℕ → ℕ → Type 0
IsUnwritten old new before after = (new ≡ old) × (after ≡ before)

-- what the caller finds behind a batch that ended so
abbrev pub BatchEnds : Result LoadedPolicy FileFault → List CQuestion → List ℕ → List ℕ → ℕ → ℕ → BatchEnd → Type 0
BatchEnds made questions old new before after all = (loaded : LoadedPolicy) × (made ≡ Ok loaded) × (numbers_of loaded questions ≡ Ok new) × (after ≡ before)
BatchEnds made questions old new before after (line number) = (made ≡ Err (bad_line number)) × (new ≡ old) × (after ≡ number)
BatchEnds made questions old new before after (failed fault.Memory) = IsUnwritten old new before after
BatchEnds made questions old new before after (failed other) =
    (loaded : LoadedPolicy) × (made ≡ Ok loaded) × (numbers_of loaded questions ≡ Err other) × IsUnwritten old new before after
BatchEnds made questions old new before after uneven = (length old ≢ length questions) × IsUnwritten old new before after

-- the status says how the batch ended, and the caller finds what then stands there
abbrev pub IsBatch : Result LoadedPolicy FileFault → List CQuestion → List ℕ → List ℕ → ℕ → ℕ → ℕ → Type 0
IsBatch made questions old new before after status =
    (end : BatchEnd) × (status ≡ batch_status end) × BatchEnds made questions old new before after end
