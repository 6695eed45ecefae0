use Rattle.std.proofs.Common.{ap, refl, sym}
use Rattle.kapi_policy.specs.Objects.{PolicyObjects, with_object}
use Rattle.kapi_index.proofs.Changed.{map_ok}
use Rattle.kapi_index.proofs.Walks.{policy_put, seen_with}
use Rattle.kapi_index.proofs.indexed.IndexedPolicy.put.Goals as goal

pub returns-in_ok-role_ref-in-ClusterRoleBinding-clause-done : goal.returns-in_ok-role_ref-in-ClusterRoleBinding-clause-done
unfolding with_object
returns-in_ok-role_ref-in-ClusterRoleBinding-clause-done c =
    map_ok c.put.result _ _
    (λ done. rw c.in-ClusterRoleBinding.is (seen_with _ c.args.self.now _ _ c.self.view_is
    (policy_put c.args.self.now _ c.self.inside.cluster c.put.new.self _ _ _ c.in-ClusterRoleBinding.binding refl
    (ap (λ (o : PolicyObjects). o.cluster_role_bindings) (sym c.self.view_is)) c.in_ok-subjects-in-ClusterRoleBinding.ensures c.in_ok-role_ref-in-ClusterRoleBinding.ensures done)))
    c.put.ensures.done
