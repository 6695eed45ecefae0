use Rattle.kapi_request_info.proofs.Written.{info_absolute, info_pathless, info_alone}
use Rattle.kapi_request_info.proofs.laws.authorities_mean_nothing.Goals as goal

pub returns : goal.returns
returns c = record { path = info_absolute; query = info_pathless; alone = info_alone }
