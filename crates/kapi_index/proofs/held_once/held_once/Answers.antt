use Rattle.kapi_policy.specs.Decided.{bindings_in, held}
use Rattle.kapi_policy.specs.Laws.{rules_by}
use Rattle.kapi_index.proofs.Once.{once_all}
use Rattle.kapi_index.proofs.held_once.held_once.Goals as goal

pub returns : goal.returns
unfolding held bindings_in
returns c =
    once_all (rules_by c.args.policy.now c.args.identity.now) _ _ _ c.new-list.result.items c.push_scope.new.list.items c.push_in_namespace.new.list.items
    c.new-list.ensures.items c.cluster.ensures c.in_ok-push_scope.ensures c.in_ok-push_in_namespace.ensures
