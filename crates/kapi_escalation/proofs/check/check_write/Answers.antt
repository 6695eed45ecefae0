use Rattle.kapi_escalation.proofs.Grants.{passes_where_granted, told, within_if_ok}
use Rattle.kapi_escalation.proofs.check.check_write.Goals as goal

pub returns-clause-granted : goal.returns-clause-granted
returns-clause-granted g c = told _ _ _ (passes_where_granted _ _ _) c.check_in_order.ensures

pub returns-clause-within : goal.returns-clause-within
returns-clause-within g c = within_if_ok _ _ _ _ c.check_in_order.ensures
