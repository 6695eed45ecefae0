use Rattle.kapi_core.proofs.Listed.{due_is_listed, first_is_listed, first_shown_is_listed, listed_then, shown_is_listed}
use Rattle.kapi_core.proofs.laws.what_a_watch_of_the_machine_shows_makes_its_list.Goals as goal

pub returns-clause-due : goal.returns-clause-due
returns-clause-due c = due_is_listed

pub returns-clause-shown : goal.returns-clause-shown
returns-clause-shown c = shown_is_listed

pub returns-clause-first : goal.returns-clause-first
returns-clause-first c = first_is_listed

pub returns-clause-first_shown : goal.returns-clause-first_shown
returns-clause-first_shown c = first_shown_is_listed

pub returns-clause-at : goal.returns-clause-at
returns-clause-at c = listed_then
