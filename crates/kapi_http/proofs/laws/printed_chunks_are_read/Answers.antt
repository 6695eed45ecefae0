use Rattle.kapi_http.proofs.PrintedChunks.{printed_read, printed_request, printed_whole}
use Rattle.kapi_http.proofs.laws.printed_chunks_are_read.Goals as goal

pub returns-clause-whole : goal.returns-clause-whole
returns-clause-whole c = printed_whole

pub returns-clause-body : goal.returns-clause-body
returns-clause-body c = λ parts are. (printed_read parts are).1

pub returns-clause-request : goal.returns-clause-request
returns-clause-request c = printed_request
