use Rattle.kapi_escalation.proofs.Admitted.{admitted_is}
use Rattle.kapi_escalation.proofs.stored_laws.what_is_admitted_is_of_its_row.Goals as goal

pub returns : goal.returns
returns c = admitted_is
