use Rattle.kapi_http.proofs.Cutting.{cut_apart}
use Rattle.kapi_http.proofs.laws.requests_are_cut_apart.Goals as goal

pub returns : goal.returns
returns c = cut_apart
