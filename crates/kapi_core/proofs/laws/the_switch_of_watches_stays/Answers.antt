use Rattle.kapi_core.proofs.Rechecking.{off_shows_what_is_due, stays_switched}
use Rattle.kapi_core.proofs.laws.the_switch_of_watches_stays.Goals as goal

pub returns-clause-stays : goal.returns-clause-stays
returns-clause-stays c = stays_switched

pub returns-clause-off : goal.returns-clause-off
returns-clause-off c = off_shows_what_is_due
