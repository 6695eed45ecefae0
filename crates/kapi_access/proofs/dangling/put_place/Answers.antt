use Rattle.kapi_access.proofs.Idle.{one_more}
use Rattle.kapi_access.proofs.dangling.put_place.Goals as goal

pub returns : goal.returns
returns c = one_more c.args.places.now c.insert.new.self c.args.place c.in_ok-insert.ensures.updates.0
