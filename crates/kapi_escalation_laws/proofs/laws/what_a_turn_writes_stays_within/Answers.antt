use Rattle.kapi_escalation_laws.proofs.Law.{turns_stay_within}
use Rattle.kapi_escalation_laws.proofs.laws.what_a_turn_writes_stays_within.Goals as goal

pub returns : goal.returns
returns c = turns_stay_within
