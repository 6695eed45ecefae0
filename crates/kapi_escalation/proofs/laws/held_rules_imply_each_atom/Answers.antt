use Rattle.kapi_escalation.proofs.Implied.{none_is_missing}
use Rattle.kapi_escalation.proofs.laws.held_rules_imply_each_atom.Goals as goal

pub returns : goal.returns
returns c = none_is_missing
