use Rattle.kapi_core.proofs.Gains.{roles_never_grow}
use Rattle.kapi_core.proofs.laws.roles_never_grow.Goals as goal

pub returns : goal.returns
returns c = roles_never_grow
