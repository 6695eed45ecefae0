use Rattle.kapi_http.proofs.Heads.{head_of_read, head_of_whole}
use Rattle.kapi_http.proofs.laws.heads_are_those_of_the_grammar.Goals as goal

pub returns-clause-read : goal.returns-clause-read
returns-clause-read c = head_of_read

pub returns-clause-whole : goal.returns-clause-whole
returns-clause-whole c = head_of_whole
