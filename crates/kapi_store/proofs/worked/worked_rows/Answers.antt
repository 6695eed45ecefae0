use Rattle.kapi_store.proofs.OnLiterals.{uid_of-six, uid_of-byte, uid_of-last, creation-last}
use Rattle.kapi_store.proofs.worked.worked_rows.Goals as goal

pub returns : goal.returns
returns c = record { six = uid_of-six; byte = uid_of-byte; last = uid_of-last; used_up = creation-last }
