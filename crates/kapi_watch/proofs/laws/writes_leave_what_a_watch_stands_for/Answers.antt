use Rattle.kapi_watch.proofs.Runs.{stays}
use Rattle.kapi_watch.proofs.laws.writes_leave_what_a_watch_stands_for.Goals as goal

pub returns : goal.returns
returns c = stays
