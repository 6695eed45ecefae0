use Rattle.kapi_watch.proofs.Runs.{shows, ends}
use Rattle.kapi_watch.proofs.laws.nothing_is_shown_twice_or_left_out.Goals as goal

pub returns-clause-due : goal.returns-clause-due
returns-clause-due c = shows

pub returns-clause-end : goal.returns-clause-end
returns-clause-end c = ends
