use Rattle.std.proofs.Common.{ap, sym, ◌∙◌, ◌++◌}
use Rattle.kapi_policy.specs.All.{bindings_in_namespaces}
use Rattle.kapi_policy.specs.Objects.{PolicyObjects}
use Rattle.kapi_index.proofs.EachBinding.{all_of}
use Rattle.kapi_index.specs.Contents.{bindings_in, by_text, in_all}
use Rattle.kapi_index.proofs.indexed.IndexedPolicy.bindings.Goals as goal

pub returns : goal.returns
returns c =
    all_of c.args.self.now c.self.inside.cluster (by_text c.self.inside.spaces.entries) _ (ap (λ (o : PolicyObjects). o.cluster_role_bindings) (sym c.self.view_is)) (ap (λ (o : PolicyObjects). o.role_bindings) (sym c.self.view_is))
    (c.in_ok-push_spaces.ensures ∙ ap (λ l. l ++ bindings_in_namespaces (in_all bindings_in (by_text c.self.inside.spaces.entries))) c.in_ok-list.ensures)
