use Rattle.std.proofs.Common.{ap, [], ◌∙◌, ◌++◌}
use Rattle.std.specs.Option.{unwrap_or}
use Rattle.kapi_policy.specs.Decided.{rules_of}
use Rattle.kapi_index.proofs.Walks.{given_left, given_step}
use Rattle.kapi_index.proofs.walk.push_scope.Goals as goal

pub loop-name-init : goal.loop-name-init
loop-name-init c = ap (λ l. c.args.list.now.items ++ l) (given_left c.args.policy.now c.args.identity.now c.args.kind c.args.scope.now)

pub loop-name-preserved : goal.loop-name-preserved
loop-name-preserved c =
    given_step c.args.policy.now c.args.identity.now c.args.kind c.args.scope.now _ _ _ _ _ (c.in-Some.name.now, c.in-Some.binding.now)
    c.in-Some.ensures.steps c.in-Some.ensures.meant c.loop-name.invariant
    (c.in_ok-push_of.ensures ∙ ap (λ n. c.loop-name.list.items ++ unwrap_or (rules_of c.args.policy.now c.in-Some.binding.now.role_ref n) []) c.namespace.ensures)
