use Rattle.kapi_loading.proofs.Served.{file_is_served, file_is_unopened}
use Rattle.kapi_loading.proofs.laws.a_file_makes_a_machine_of_the_laws.Goals as goal

pub returns-clause-served : goal.returns-clause-served
returns-clause-served c = file_is_served

pub returns-clause-unopened : goal.returns-clause-unopened
returns-clause-unopened c = file_is_unopened
