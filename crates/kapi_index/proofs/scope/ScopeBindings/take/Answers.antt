use Rattle.kapi_index.proofs.Reindexed.{exact_taken, seen_taken}
use Rattle.kapi_index.proofs.scope.ScopeBindings.take.Goals as goal

pub invariant_of-self : goal.invariant_of-self
invariant_of-self c =
    exact_taken _ _ _ _ _ _ c.self.invariant.prepared c.take_bound.ensures.done c.take_bound.ensures.sorted c.take_bound.ensures.by_user c.take_bound.ensures.by_group

pub returns : goal.returns
returns c = seen_taken _ _ _ _ _ c.self.view_is c.take_bound.ensures.done
