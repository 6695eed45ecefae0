use Rattle.kapi_access.proofs.Reported.{each_line_is_a_gain}
use Rattle.kapi_access.proofs.laws.each_line_is_a_gain.Goals as goal

pub returns : goal.returns
returns c = each_line_is_a_gain
