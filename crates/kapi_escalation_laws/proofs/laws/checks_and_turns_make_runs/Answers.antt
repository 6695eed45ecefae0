use Rattle.kapi_escalation.proofs.Grants.{granted_where_checked}
use Rattle.kapi_escalation_laws.proofs.Turns.{next_is_turn, none_is_settled}
use Rattle.kapi_escalation_laws.proofs.laws.checks_and_turns_make_runs.Goals as goal

pub returns-clause-writes : goal.returns-clause-writes
returns-clause-writes c = granted_where_checked

pub returns-clause-turns : goal.returns-clause-turns
returns-clause-turns c = next_is_turn

pub returns-clause-settled : goal.returns-clause-settled
returns-clause-settled c = none_is_settled
