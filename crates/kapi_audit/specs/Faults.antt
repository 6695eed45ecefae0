-- Why an audit has no answer.
use Rattle.std.specs.Prelude.{ℕ, List, Option, None, Some, Result}
use Rattle.kapi_publishing.specs.declared.seat.SeatError.{SeatError}
use Rattle.kapi_publishing.specs.declared.seat.SeatError.TheVariants as seat
use Rattle.kapi_loading.specs.declared.fault.StartError.{StartError}
use Rattle.kapi_loading.specs.declared.fault.StartError.TheVariants as start
use Rattle.kapi_audit.specs.declared.fault.AuditFault.{AuditFault}
use Rattle.kapi_audit.specs.declared.fault.AuditFault.TheVariants as fault

-- the line at fault, of one of the two files
pub data AuditError : Type 0 where
  policy_line : ℕ → AuditError
  question_line : ℕ → AuditError

-- the answers, or the line at fault
abbrev pub Answered : Type 0
Answered = Result (List ℕ) AuditError

-- what a fault reports of the files: nothing if it is out of memory, or a reader was refused
abbrev pub model_of_fault : AuditFault → Option AuditError
model_of_fault (fault.PolicyLine n) = Some (policy_line n)
model_of_fault (fault.QuestionLine n) = Some (question_line n)
model_of_fault fault.Memory = None
model_of_fault fault.Busy = None

-- the fault of an audit whose policy is not loaded
abbrev pub unloaded : StartError → AuditFault
unloaded (start.Line n) = fault.PolicyLine n
unloaded start.Memory = fault.Memory

-- the fault of an audit one of whose readers is refused for this reason
abbrev pub stopped : SeatError → AuditFault
stopped seat.Memory = fault.Memory
stopped seat.Busy = fault.Busy
