use Rattle.kapi_access.proofs.ShownRights.{lines_everywhere, lines_of_namespace, what_is_exact}
use Rattle.kapi_access.proofs.laws.what_one_has_is_what_one_may.Goals as goal

pub returns-clause-rules : goal.returns-clause-rules
returns-clause-rules c = λ objects identity namespace p asked. what_is_exact namespace p asked objects identity

pub returns-clause-lines : goal.returns-clause-lines
returns-clause-lines c = lines_everywhere

pub returns-clause-within : goal.returns-clause-within
returns-clause-within c = lines_of_namespace
