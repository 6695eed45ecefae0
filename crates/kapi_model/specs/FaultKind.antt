-- The words for what is wrong with a member.
use Rattle.std.specs.Prelude.{ℕ, List, codes}
use Rattle.kapi_model.specs.declared.fault.FaultKind.{FaultKind}
use Rattle.kapi_model.specs.declared.fault.FieldFault.{FieldFault}
use Rattle.kapi_model.specs.declared.fault.FaultKind.TheVariants.{Required, NotAllowedHere, WrongType, BadValue}

-- a kind of fault in words
abbrev pub cause_text : FaultKind → List ℕ
cause_text Required = codes "required"
cause_text NotAllowedHere = codes "not allowed here"
cause_text WrongType = codes "wrong type"
cause_text BadValue = codes "bad value"

-- the fault of a member
abbrev pub fault : List ℕ → FaultKind → FieldFault
fault field cause = record { field = field; cause = cause }
