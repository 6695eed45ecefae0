use Rattle.kapi_publishing.proofs.Pages.{agree_before, agree_behind}
use Rattle.kapi_publishing.proofs.seat.Seat.histories_agree.Goals as goal

pub returns-then-self-other : goal.returns-then-self-other
returns-then-self-other c = agree_before _ _ _ _ _ _ _ c.self.view_is c.other.view_is c.self.invariant.2 c.compare.ensures

pub returns-else-self-other : goal.returns-else-self-other
returns-else-self-other c = agree_behind _ _ _ _ _ _ _ c.self.view_is c.other.view_is c.other.invariant.2 c.compare-else-self-other.ensures
