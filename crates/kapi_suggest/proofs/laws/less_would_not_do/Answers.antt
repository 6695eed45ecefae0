use Rattle.kapi_suggest.proofs.Least.{least}
use Rattle.kapi_suggest.proofs.Lawful.{least_policy}
use Rattle.kapi_suggest.proofs.laws.less_would_not_do.Goals as goal

pub returns-clause-given : goal.returns-clause-given
returns-clause-given c = least

pub returns-clause-suggested : goal.returns-clause-suggested
returns-clause-suggested c = least_policy
