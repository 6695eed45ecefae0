-- Why a write is refused, as definitions say it: running out of memory is no such fault.
use Rattle.std.specs.Prelude.{ℕ, List, Option, Some, None}
use Rattle.kapi_store.specs.declared.error.StoreError.{StoreError}
use Rattle.kapi_store.specs.declared.error.StoreError.TheVariants as error

-- the cases of a refusal, and of a conflict with the stored version
pub data StoreFault : Type 0 where
  Exists : StoreFault
  Missing : StoreFault
  Conflict : List ℕ → StoreFault
  NoNamespace : StoreFault
  NamespaceNotEmpty : StoreFault
  RevisionsUsedUp : StoreFault

-- the fault that an error reports
abbrev pub fault_of : StoreError → Option StoreFault
fault_of error.Exists = Some Exists
fault_of error.Missing = Some Missing
fault_of (error.Conflict current) = Some (Conflict current)
fault_of error.NoNamespace = Some NoNamespace
fault_of error.NamespaceNotEmpty = Some NamespaceNotEmpty
fault_of error.RevisionsUsedUp = Some RevisionsUsedUp
fault_of error.Memory = None
