use Rattle.kapi_http.proofs.Cutting.{cut_begins}
use Rattle.kapi_http.proofs.laws.fronts_are_cut_alike.Goals as goal

pub returns : goal.returns
returns c = cut_begins
