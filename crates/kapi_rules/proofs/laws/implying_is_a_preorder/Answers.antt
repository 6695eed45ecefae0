use Rattle.kapi_rules.proofs.Covers.{implies_itself, implies_onward}
use Rattle.kapi_rules.proofs.laws.implying_is_a_preorder.Goals as goal

pub returns-clause-itself : goal.returns-clause-itself
returns-clause-itself c = implies_itself

pub returns-clause-onward : goal.returns-clause-onward
returns-clause-onward c = implies_onward
