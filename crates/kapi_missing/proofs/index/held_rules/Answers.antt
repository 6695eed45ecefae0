use Rattle.kapi_missing.proofs.Placing.{held_step}
use Rattle.kapi_missing.proofs.index.held_rules.Goals as goal

pub loop-number-preserved : goal.loop-number-preserved
loop-number-preserved c =
    held_step c.args.held.now c.loop-number.number c.index-held-number.result c.loop-number.rules c.add_held.new.rules c.loop-number-test.true c.index-held-number.is c.in_ok-add_held.ensures c.loop-number.invariant
