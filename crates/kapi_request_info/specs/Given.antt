-- What the attributes' call returns: the definition's result, unless it is out of memory.
use Rattle.std.specs.Prelude.{Result}
use Rattle.kapi_text.specs.ResultIs.{ResultIs}
use Rattle.kapi_request_info.specs.declared.attributes.Attributes.{Attributes}
use Rattle.kapi_request_info.specs.declared.attributes.InfoError.{InfoError}
use Rattle.kapi_request_info.specs.Faults.{TargetFault, fault_of}

-- the call returns the attributes or the fault of the definition
abbrev pub GivesInfo : Result Attributes InfoError → Result Attributes TargetFault → Type 0
GivesInfo result given = ResultIs fault_of (λ a. a) result given
