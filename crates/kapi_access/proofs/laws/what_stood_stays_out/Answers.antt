use Rattle.kapi_access.proofs.Reported.{bindings_alike, bindings_that_stood, rules_that_stood}
use Rattle.kapi_access.proofs.laws.what_stood_stays_out.Goals as goal

pub returns-clause-rules : goal.returns-clause-rules
returns-clause-rules c = rules_that_stood

pub returns-clause-bindings : goal.returns-clause-bindings
returns-clause-bindings c = bindings_that_stood

pub returns-clause-alike : goal.returns-clause-alike
returns-clause-alike c = bindings_alike
