use Rattle.kapi_http.proofs.RequestTexts.{cut_parts, parts_cut}
use Rattle.kapi_http.proofs.laws.texts_of_requests_are_cut.Goals as goal

pub returns-clause-read : goal.returns-clause-read
returns-clause-read c = cut_parts

pub returns-clause-whole : goal.returns-clause-whole
returns-clause-whole c = parts_cut
