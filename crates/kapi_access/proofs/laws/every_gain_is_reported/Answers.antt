use Rattle.kapi_access.proofs.Reported.{every_gain_is_reported}
use Rattle.kapi_access.proofs.laws.every_gain_is_reported.Goals as goal

pub returns : goal.returns
returns c = every_gain_is_reported
