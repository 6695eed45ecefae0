use Rattle.kapi_access.proofs.Bound.{who_is_exact}
use Rattle.kapi_access.proofs.laws.who_may_is_who_is_listed.Goals as goal

pub returns : goal.returns
returns c = who_is_exact
