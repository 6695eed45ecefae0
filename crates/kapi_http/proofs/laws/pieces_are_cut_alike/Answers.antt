use Rattle.kapi_http.proofs.Cutting.{pieces_cut}
use Rattle.kapi_http.proofs.laws.pieces_are_cut_alike.Goals as goal

pub returns : goal.returns
returns c = pieces_cut
