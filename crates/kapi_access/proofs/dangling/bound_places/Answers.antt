use Rattle.kapi_access.proofs.Idle.{bound_more}
use Rattle.kapi_access.proofs.dangling.bound_places.Goals as goal

pub loop-binding-preserved : goal.loop-binding-preserved
loop-binding-preserved c =
    bound_more _ _ c.args.bindings.now c.loop-binding.binding-index c.binding-item.result c.loop-binding-test.true c.binding-item.is c.loop-binding.invariant c.in_ok-put_role.ensures
