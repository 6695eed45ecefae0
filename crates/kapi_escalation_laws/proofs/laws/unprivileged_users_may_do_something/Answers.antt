use Rattle.kapi_escalation_laws.proofs.Worked.{eve_may_get, filled_guarded}
use Rattle.kapi_escalation_laws.proofs.laws.unprivileged_users_may_do_something.Goals as goal

pub returns-clause-guarded : goal.returns-clause-guarded
returns-clause-guarded c = filled_guarded

pub returns-clause-allowed : goal.returns-clause-allowed
returns-clause-allowed c = eve_may_get
