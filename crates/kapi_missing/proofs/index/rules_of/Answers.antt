use Rattle.std.proofs.Common.{refl}
use Rattle.kapi_missing.proofs.Placing.{wanted_step}
use Rattle.kapi_missing.proofs.index.rules_of.Goals as goal

pub loop-position-preserved : goal.loop-position-preserved
loop-position-preserved c =
    wanted_step c.args.held.now c.args.wanted.now _ c.loop-position.position c.index-wanted-position.result c.loop-position.rules c.add_wanted.new.rules refl c.loop-position-test.true
    c.index-wanted-position.is c.in_ok-add_wanted.ensures c.loop-position.invariant
