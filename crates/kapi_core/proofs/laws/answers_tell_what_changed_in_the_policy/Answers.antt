use Rattle.kapi_core.proofs.Telling.{stood_for_tell}
use Rattle.kapi_core.proofs.laws.answers_tell_what_changed_in_the_policy.Goals as goal

pub returns : goal.returns
returns c = stood_for_tell
