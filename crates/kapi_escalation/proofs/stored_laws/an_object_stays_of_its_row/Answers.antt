use Rattle.kapi_escalation.proofs.Admitted.{stamps_kept, place_kept, status_kept, without_kept}
use Rattle.kapi_escalation.proofs.stored_laws.an_object_stays_of_its_row.Goals as goal

pub returns-clause-stamped : goal.returns-clause-stamped
returns-clause-stamped c = stamps_kept

pub returns-clause-in_namespace : goal.returns-clause-in_namespace
returns-clause-in_namespace c = place_kept

pub returns-clause-with_status : goal.returns-clause-with_status
returns-clause-with_status c = status_kept

pub returns-clause-without_status : goal.returns-clause-without_status
returns-clause-without_status c = without_kept
