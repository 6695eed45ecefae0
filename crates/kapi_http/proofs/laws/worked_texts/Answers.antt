use Rattle.std.proofs.Common.{refl}
use Rattle.kapi_http.proofs.OnLiterals.{http_on_literals}
use Rattle.kapi_http.proofs.laws.worked_texts.Goals as goal

pub returns-clause-request : goal.returns-clause-request
unfolding http_on_literals
returns-clause-request c = refl

pub returns-clause-fault : goal.returns-clause-fault
unfolding http_on_literals
returns-clause-fault c = refl

pub returns-clause-unfinished : goal.returns-clause-unfinished
unfolding http_on_literals
returns-clause-unfinished c = refl
