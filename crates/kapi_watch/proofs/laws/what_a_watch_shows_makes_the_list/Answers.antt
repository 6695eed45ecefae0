use Rattle.kapi_watch.proofs.Lists.{due_rebuilds_list, shown_rebuilds_list, first_rebuilds_list, first_shown_rebuilds_list}
use Rattle.kapi_watch.proofs.laws.what_a_watch_shows_makes_the_list.Goals as goal

pub returns-clause-due : goal.returns-clause-due
returns-clause-due c = due_rebuilds_list

pub returns-clause-shown : goal.returns-clause-shown
returns-clause-shown c = shown_rebuilds_list

pub returns-clause-first : goal.returns-clause-first
returns-clause-first c = first_rebuilds_list

pub returns-clause-first_shown : goal.returns-clause-first_shown
returns-clause-first_shown c = first_shown_rebuilds_list
