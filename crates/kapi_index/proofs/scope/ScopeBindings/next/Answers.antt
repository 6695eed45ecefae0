use Rattle.kapi_index.proofs.Steps.{steps_meant, steps_none, steps_some}
use Rattle.kapi_index.proofs.scope.ScopeBindings.next.Goals as goal

pub returns-in-Some-clause-steps : goal.returns-in-Some-clause-steps
returns-in-Some-clause-steps c = steps_some _ _ _ _ _ _ c.self.invariant _ c.self.view_is _ c.named.result c.in-Some.ensures c.named.ensures

pub returns-in-Some-clause-meant : goal.returns-in-Some-clause-meant
returns-in-Some-clause-meant c = steps_meant _ _ _ _ _ _ c.self.invariant _ c.self.view_is _ c.named.result c.in-Some.ensures c.named.ensures

pub returns-in-None-clause-steps : goal.returns-in-None-clause-steps
returns-in-None-clause-steps c = steps_none _ _ _ _ _ _ c.self.invariant _ c.self.view_is c.in-None.ensures
