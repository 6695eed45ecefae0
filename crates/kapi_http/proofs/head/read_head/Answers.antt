use Rattle.kapi_http.proofs.Heads.{read_exact, read_texts}
use Rattle.kapi_http.proofs.head.read_head.Goals as goal

pub returns-clause-exact : goal.returns-clause-exact
returns-clause-exact c = read_exact _ c.parse_head.result _ c.parse_head.ensures.some c.parse_head.ensures.none

pub returns-clause-texts : goal.returns-clause-texts
returns-clause-texts c = read_texts _ c.parse_head.result _ c.parse_head.ensures.some
