use Rattle.kapi_suggest.proofs.Exact.{exact}
use Rattle.kapi_suggest.proofs.Lawful.{exact_policy}
use Rattle.kapi_suggest.proofs.laws.what_is_suggested_is_what_was_used.Goals as goal

pub returns-clause-rules : goal.returns-clause-rules
returns-clause-rules c = λ uses identity namespace p plain. exact p plain identity namespace uses

pub returns-clause-policy : goal.returns-clause-policy
returns-clause-policy c = exact_policy
