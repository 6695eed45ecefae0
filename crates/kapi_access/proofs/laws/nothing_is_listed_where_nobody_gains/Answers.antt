use Rattle.kapi_access.proofs.Reported.{nobody_gains_anything, nothing_listed}
use Rattle.kapi_access.proofs.laws.nothing_is_listed_where_nobody_gains.Goals as goal

pub returns-clause-nothing : goal.returns-clause-nothing
returns-clause-nothing c = nothing_listed

pub returns-clause-nobody : goal.returns-clause-nobody
returns-clause-nobody c = nobody_gains_anything
