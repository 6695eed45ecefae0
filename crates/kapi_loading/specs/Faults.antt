-- Why no machine was made of a file.
use Rattle.std.specs.Prelude.{ℕ, Option, None, Some}
use Rattle.kapi_loading.specs.declared.fault.StartError.{StartError}
use Rattle.kapi_loading.specs.declared.fault.StartError.TheVariants as fault

-- the line that is not loaded
pub data FileFault : Type 0 where
  bad_line : ℕ → FileFault

-- the fault that an error reports: none if it is out of memory
abbrev pub model_of_fault : StartError → Option FileFault
model_of_fault (fault.Line n) = Some (bad_line n)
model_of_fault fault.Memory = None
