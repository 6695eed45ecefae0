use Rattle.kapi_publishing.proofs.Pages.{begins_seen}
use Rattle.kapi_publishing.proofs.seat.Seat.see.Goals as goal

pub returns-clause-seen : goal.returns-clause-seen
returns-clause-seen c = begins_seen _ _ _ _ _ c.self.view_is c.self.invariant.2 c.compare.ensures
