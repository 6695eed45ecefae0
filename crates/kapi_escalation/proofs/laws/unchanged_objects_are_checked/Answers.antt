use Rattle.kapi_escalation.proofs.Grants.{checked_like_new}
use Rattle.kapi_escalation.proofs.laws.unchanged_objects_are_checked.Goals as goal

pub returns : goal.returns
returns c = checked_like_new
