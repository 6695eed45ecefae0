-- The faults of a call, and their statuses.
use Rattle.std.specs.Prelude.{ℕ, Option, Some, None}
use Rattle.kapi_c_requests.specs.declared.fault.CallFault.{CallFault}
use Rattle.kapi_c_requests.specs.declared.fault.CallFault.TheVariants as fault

-- the status of a fault
abbrev pub code_of : CallFault → ℕ
code_of fault.Memory = 1
code_of (fault.Line number) = 2
code_of fault.Text = 3
code_of fault.Question = 4

-- a fault that the definitions know: nothing is said where memory runs out
abbrev pub model_of_fault : CallFault → Option CallFault
model_of_fault fault.Memory = None
model_of_fault (fault.Line number) = Some (fault.Line number)
model_of_fault fault.Text = Some fault.Text
model_of_fault fault.Question = Some fault.Question
