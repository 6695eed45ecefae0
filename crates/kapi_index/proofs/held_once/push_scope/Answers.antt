use Rattle.std.proofs.Common.{ap, subst, [], ◌++◌}
use Rattle.std.specs.List.{list_any}
use Rattle.std.specs.Option.{unwrap_or}
use Rattle.kapi_model.specs.declared.kinds.RoleKind.TheVariants.{ClusterRole, Role}
use Rattle.kapi_policy.specs.Decided.{rules_of}
use Rattle.kapi_policy.specs.Laws.{AreSameRules}
use Rattle.kapi_index.proofs.Once.{none_listed, once_step}
use Rattle.kapi_index.proofs.Walks.{given_left}
use Rattle.kapi_index.specs.Taken.{AreTaken}
use Rattle.kapi_index.proofs.held_once.push_scope.Goals as goal

pub loop-name-init : goal.loop-name-init
loop-name-init c = (
  λ test. ap (λ l. list_any test (c.args.list.now.items ++ l)) (given_left c.args.policy.now c.args.identity.now c.args.kind c.args.scope.now),
  (
    none_listed c.args.policy.now c.args.scope.now.namespace Role c.new.result c.args.list.now.items c.new.ensures.empty,
    none_listed c.args.policy.now c.args.scope.now.namespace ClusterRole c.new-2.result c.args.list.now.items c.new-2.ensures.empty,
  ),
)

pub loop-name-preserved : goal.loop-name-preserved
loop-name-preserved c = (
  once_step c.args.policy.now c.args.identity.now c.args.kind c.args.scope.now c.loop-name.list.items c.push_once.new.list.items _ _ _
      (c.in-Some.name.now, c.in-Some.binding.now) c.in-Some.ensures.steps c.in-Some.ensures.meant c.loop-name.invariant.0
      (subst (λ n. AreSameRules c.push_once.new.list.items (c.loop-name.list.items ++ unwrap_or (rules_of c.args.policy.now c.in-Some.binding.now.role_ref n) []))
      c.namespace.ensures c.in_ok-push_once.ensures.same),
  subst (λ n. AreTaken c.args.policy.now n c.push_once.new.taken c.push_once.new.list.items) c.namespace.ensures c.in_ok-push_once.ensures.taken,
)
