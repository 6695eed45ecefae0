use Rattle.kapi_missing.proofs.Gridding.{item_got}
use Rattle.kapi_missing.specs.Private.Left.{item}
use Rattle.kapi_missing.proofs.grid.place.Goals as goal

pub returns-then-is_same : goal.returns-then-is_same
returns-then-is_same c = item_got c.args.columns.now c.loop-place.place c.index-columns-place.result (item c.args.part) c.loop-place-test.true c.index-columns-place.is (c.is_same.ensures c.if-is_same.true)
