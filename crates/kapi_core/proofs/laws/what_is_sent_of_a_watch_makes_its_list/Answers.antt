use Rattle.kapi_core.proofs.Pumps.{events_are_a_run, first_sent_is_listed, sent_is_listed}
use Rattle.kapi_core.proofs.laws.what_is_sent_of_a_watch_makes_its_list.Goals as goal

pub returns-clause-run : goal.returns-clause-run
returns-clause-run c = events_are_a_run

pub returns-clause-sent : goal.returns-clause-sent
returns-clause-sent c = sent_is_listed

pub returns-clause-first : goal.returns-clause-first
returns-clause-first c = first_sent_is_listed
