use Rattle.kapi_escalation_laws.proofs.Law.{bindings_stay_within, roles_stay_within}
use Rattle.kapi_escalation_laws.proofs.laws.what_is_written_stays_within.Goals as goal

pub returns-clause-roles : goal.returns-clause-roles
returns-clause-roles c = roles_stay_within

pub returns-clause-bindings : goal.returns-clause-bindings
returns-clause-bindings c = bindings_stay_within
