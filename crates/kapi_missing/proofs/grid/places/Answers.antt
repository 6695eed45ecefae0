use Rattle.kapi_missing.proofs.Gridding.{placed_parts, placed_push}
use Rattle.kapi_missing.proofs.grid.places.Goals as goal

pub loop-part-preserved : goal.loop-part-preserved
loop-part-preserved c = (
  placed_parts c.loop-part.entries.items c.push.new.self.items _ c.loop-part.yielded c.in_ok-push-in-Some-place.ensures.items c.loop-part.invariant.0,
  rw c.in_ok-push-in-Some-place.ensures.items (placed_push c.args.columns.now c.loop-part.entries.items _ c.loop-part.invariant.1 c.in-Some-place.ensures),
)
