use Rattle.kapi_escalation_laws.proofs.Worked.{binder_acts, binder_gains, binder_in_order, binder_runs, binder_settled}
use Rattle.kapi_escalation_laws.proofs.laws.who_may_bind_gains_more.Goals as goal

pub returns-clause-order : goal.returns-clause-order
returns-clause-order c = binder_in_order

pub returns-clause-settled : goal.returns-clause-settled
returns-clause-settled c = binder_settled

pub returns-clause-acts : goal.returns-clause-acts
returns-clause-acts c = binder_acts

pub returns-clause-runs : goal.returns-clause-runs
returns-clause-runs c = binder_runs

pub returns-clause-gains : goal.returns-clause-gains
returns-clause-gains c = binder_gains
