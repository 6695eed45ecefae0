use Rattle.kapi_escalation_laws.proofs.Worked.{unsettled_gains, unsettled_unprivileged, unsettled_in_order, unsettled_runs}
use Rattle.kapi_escalation_laws.proofs.laws.turns_of_unsettled_policies_give_more.Goals as goal

pub returns-clause-order : goal.returns-clause-order
returns-clause-order c = unsettled_in_order

pub returns-clause-unprivileged : goal.returns-clause-unprivileged
returns-clause-unprivileged c = unsettled_unprivileged

pub returns-clause-runs : goal.returns-clause-runs
returns-clause-runs c = unsettled_runs

pub returns-clause-gains : goal.returns-clause-gains
returns-clause-gains c = unsettled_gains
