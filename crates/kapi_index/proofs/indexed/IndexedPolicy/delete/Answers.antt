use Rattle.std.proofs.Common.{ap, sym}
use Rattle.kapi_policy.specs.Objects.{PolicyObjects, without_object}
use Rattle.kapi_index.proofs.Walks.{policy_taken, seen_with}
use Rattle.kapi_index.proofs.indexed.IndexedPolicy.delete.Goals as goal

pub returns-in-ClusterRoleBinding : goal.returns-in-ClusterRoleBinding
unfolding without_object
returns-in-ClusterRoleBinding c =
    rw c.in-ClusterRoleBinding.is (seen_with _ c.args.self.now _ _ c.self.view_is
    (policy_taken c.args.self.now c.self.inside.cluster c.take.new.self _ (ap (λ (o : PolicyObjects). o.cluster_role_bindings) (sym c.self.view_is)) c.take.ensures))
