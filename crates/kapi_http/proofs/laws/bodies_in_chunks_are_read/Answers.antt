use Rattle.kapi_http.proofs.BodyParts.{whole_is_body}
use Rattle.kapi_http.proofs.BodyReads.{body_read, body_whole}
use Rattle.kapi_http.proofs.ChunkedRequests.{request_has_body}
use Rattle.kapi_http.proofs.laws.bodies_in_chunks_are_read.Goals as goal

pub returns-clause-read : goal.returns-clause-read
returns-clause-read c = whole_is_body

pub returns-clause-whole : goal.returns-clause-whole
returns-clause-whole c = body_whole

pub returns-clause-joins : goal.returns-clause-joins
returns-clause-joins c = λ bytes chunks size is. (body_read bytes chunks size is).1

pub returns-clause-request : goal.returns-clause-request
returns-clause-request c = request_has_body
