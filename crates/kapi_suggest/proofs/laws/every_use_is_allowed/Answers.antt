use Rattle.kapi_suggest.proofs.Lawful.{allows_all}
use Rattle.kapi_suggest.proofs.laws.every_use_is_allowed.Goals as goal

pub returns : goal.returns
returns c = allows_all
