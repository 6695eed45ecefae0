use Rattle.kapi_paths.proofs.Asking.{step_where_asked}
use Rattle.kapi_paths.proofs.laws.a_step_is_there_where_a_request_is_allowed.Goals as goal

pub returns : goal.returns
returns c = λ objects known rows x place row is. step_where_asked objects known rows place row x is
