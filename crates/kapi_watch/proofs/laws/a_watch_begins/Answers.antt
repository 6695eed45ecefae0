use Rattle.kapi_watch.proofs.Standing.{starts}
use Rattle.kapi_watch.proofs.laws.a_watch_begins.Goals as goal

pub returns : goal.returns
returns c = starts
