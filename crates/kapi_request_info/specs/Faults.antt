-- Why a request has no attributes, in the order in which the faults are looked for.
use Rattle.std.specs.Prelude.{Option, Some, None}
use Rattle.kapi_request_info.specs.declared.attributes.InfoError.{InfoError}
use Rattle.kapi_request_info.specs.declared.attributes.InfoError.TheVariants as error

-- no path by its form, no escape, a query value other than a Boolean
pub data TargetFault : Type 0 where
  bad_path : TargetFault
  bad_escape : TargetFault
  bad_query : TargetFault

-- the fault that an error reports; none if it is out of memory
abbrev pub fault_of : InfoError → Option TargetFault
fault_of error.BadPath = Some bad_path
fault_of error.BadEscape = Some bad_escape
fault_of error.BadQuery = Some bad_query
fault_of error.Memory = None
