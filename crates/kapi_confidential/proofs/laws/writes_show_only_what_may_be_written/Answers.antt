use Rattle.kapi_confidential.proofs.Writing.{writes_alike}
use Rattle.kapi_confidential.proofs.laws.writes_show_only_what_may_be_written.Goals as goal

pub returns : goal.returns
returns c = writes_alike
