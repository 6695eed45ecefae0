use Rattle.kapi_http.proofs.RequestTexts.{one_request, request_text, text_request}
use Rattle.kapi_http.proofs.laws.requests_are_those_of_the_grammar.Goals as goal

pub returns-clause-read : goal.returns-clause-read
returns-clause-read c = request_text

pub returns-clause-whole : goal.returns-clause-whole
returns-clause-whole c = text_request

pub returns-clause-one : goal.returns-clause-one
returns-clause-one c = one_request
