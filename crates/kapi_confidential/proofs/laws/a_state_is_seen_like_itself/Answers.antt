use Rattle.kapi_confidential.proofs.Reading.{alike_itself}
use Rattle.kapi_confidential.proofs.laws.a_state_is_seen_like_itself.Goals as goal

pub returns : goal.returns
returns c = alike_itself
