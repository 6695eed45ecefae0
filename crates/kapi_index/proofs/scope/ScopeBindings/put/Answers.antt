use Rattle.kapi_index.proofs.Changed.{map_ok}
use Rattle.kapi_index.proofs.Reindexed.{exact_put, seen_put}
use Rattle.kapi_index.proofs.scope.ScopeBindings.put.Goals as goal

pub invariant_of-self : goal.invariant_of-self
invariant_of-self c =
    exact_put _ _ _ _ _ _ _ c.put_bound.result c.self.invariant.prepared
    (record { users = rw (c.as_str.ensures, c.as_slice.ensures) at c.in_ok-keys.ensures.users; groups = rw c.as_slice.ensures at c.in_ok-keys.ensures.groups })
    c.put_bound.ensures.done c.put_bound.ensures.kept c.put_bound.ensures.sorted c.put_bound.ensures.by_user c.put_bound.ensures.by_group

pub returns-clause-done : goal.returns-clause-done
returns-clause-done c = map_ok c.put_bound.result _ _ (λ done. seen_put _ _ _ _ _ _ c.self.view_is done) c.put_bound.ensures.done
