use Rattle.kapi_publishing.proofs.Pages.{agree_before, agree_behind}
use Rattle.kapi_publishing.proofs.seat.Seat.reports_agree.Goals as goal

pub returns-then-self-told : goal.returns-then-self-told
returns-then-self-told c = agree_before _ _ _ _ _ _ _ c.self.view_is c.told.view_is c.self.invariant.2 c.compare.ensures

pub returns-else-self-told : goal.returns-else-self-told
returns-else-self-told c = agree_behind _ _ _ _ _ _ _ c.self.view_is c.told.view_is c.told.invariant c.compare-else-self-told.ensures
