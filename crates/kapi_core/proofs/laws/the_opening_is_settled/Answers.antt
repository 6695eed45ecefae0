use Rattle.kapi_core.proofs.OpenedPolicy.{opening_unprivileged, opening_policy_is, opening_settled}
use Rattle.kapi_core.proofs.laws.the_opening_is_settled.Goals as goal

pub returns-clause-policy : goal.returns-clause-policy
returns-clause-policy c = opening_policy_is

pub returns-clause-settled : goal.returns-clause-settled
returns-clause-settled c = opening_settled

pub returns-clause-unprivileged : goal.returns-clause-unprivileged
returns-clause-unprivileged c = opening_unprivileged
