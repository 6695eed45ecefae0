use Rattle.std.proofs.Common.{ap, sym, ◌∙◌}
use Rattle.kapi_index.specs.Points.{point_of}
use Rattle.kapi_index.proofs.Walks.{first_meant, first_step, none_granted, some_granted}
use Rattle.kapi_index.specs.Contents.{grant_of}
use Rattle.kapi_index.proofs.walk.grant_of_many.Goals as goal

pub loop-name-init : goal.loop-name-init
loop-name-init c = first_meant c.args.policy.now c.args.identity.now (point_of c.args.asked.now) c.args.kind c.args.scope.now

pub returns-then-is_some : goal.returns-then-is_some
returns-then-is_some c =
    sym (some_granted c.grant_by-found.result _ (sym c.is_some.ensures ∙ c.if-is_some.true)
    (c.grant_by-found.ensures ∙ ap (grant_of c.args.policy.now (point_of c.args.asked.now)) c.binding_in.ensures) _)
    ∙ sym (first_step c.args.policy.now c.args.identity.now (point_of c.args.asked.now) c.args.kind c.args.scope.now _ _ (c.in-Some.name.now, c.in-Some.binding.now)
    c.in-Some.ensures.steps c.in-Some.ensures.meant)
    ∙ c.loop-name.invariant

pub loop-name-preserved : goal.loop-name-preserved
loop-name-preserved c =
    sym (none_granted c.grant_by-found.result _ (sym c.is_some.ensures ∙ c.if-is_some.false)
    (c.grant_by-found.ensures ∙ ap (grant_of c.args.policy.now (point_of c.args.asked.now)) c.binding_in.ensures) _)
    ∙ sym (first_step c.args.policy.now c.args.identity.now (point_of c.args.asked.now) c.args.kind c.args.scope.now _ _ (c.in-Some.name.now, c.in-Some.binding.now)
    c.in-Some.ensures.steps c.in-Some.ensures.meant)
    ∙ c.loop-name.invariant
