use Rattle.kapi_access.proofs.Anywhere.{anywhere_is_exact}
use Rattle.kapi_access.proofs.laws.who_may_is_who_is_listed_anywhere.Goals as goal

pub returns : goal.returns
returns c = λ objects identity namespace p. anywhere_is_exact identity namespace objects p
