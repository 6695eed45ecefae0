use Rattle.kapi_missing.proofs.Gridding.{all_among, among_more}
use Rattle.kapi_missing.proofs.grid.bits_of.Goals as goal

pub loop-name-preserved : goal.loop-name-preserved
loop-name-preserved c = among_more c.loop-name.bits c.args.names.now c.loop-name.name-index c.name-item.result c.loop-name-test.true c.name-item.is c.loop-name.invariant

pub returns : goal.returns
returns c = all_among c.loop-name.bits c.args.names.now c.loop-name.name-index c.loop-name-test.false c.loop-name.invariant
