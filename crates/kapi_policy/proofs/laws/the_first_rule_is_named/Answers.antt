use Rattle.kapi_policy.proofs.Decisions.{first_is_named}
use Rattle.kapi_policy.proofs.laws.the_first_rule_is_named.Goals as goal

pub returns : goal.returns
returns c = first_is_named
