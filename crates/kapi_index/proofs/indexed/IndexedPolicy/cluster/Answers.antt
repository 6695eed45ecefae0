use Rattle.std.proofs.Common.{ap, sym}
use Rattle.kapi_policy.specs.Objects.{PolicyObjects}
use Rattle.kapi_index.proofs.Walks.{cluster_bindings}
use Rattle.kapi_index.proofs.indexed.IndexedPolicy.cluster.Goals as goal

pub returns : goal.returns
returns c = cluster_bindings c.args.self.now c.self.inside.cluster (ap (λ (o : PolicyObjects). o.cluster_role_bindings) (sym c.self.view_is)) c.self.invariant.cluster_wide
