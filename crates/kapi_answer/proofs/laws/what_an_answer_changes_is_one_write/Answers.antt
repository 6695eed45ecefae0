use Rattle.kapi_answer.proofs.Histories.{answers_write, loads_create}
use Rattle.kapi_answer.proofs.laws.what_an_answer_changes_is_one_write.Goals as goal

pub returns-clause-answers : goal.returns-clause-answers
returns-clause-answers c = answers_write

pub returns-clause-loads : goal.returns-clause-loads
returns-clause-loads c = loads_create
