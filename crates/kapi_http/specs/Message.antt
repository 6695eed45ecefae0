-- The names of methods and of status codes.
use Rattle.std.specs.Prelude.{ℕ, List, codes}
use Rattle.kapi_http.specs.declared.message.Method.{Method}
use Rattle.kapi_http.specs.declared.message.Method.TheVariants.{Get, Post, Put, Patch, Delete}
use Rattle.kapi_http.specs.declared.message.StatusCode.{StatusCode}
use Rattle.kapi_http.specs.declared.message.StatusCode.TheVariants as status

-- a method as in a request line (RFC 9110 section 9.3, RFC 5789)
abbrev pub method_text : Method → List ℕ
method_text Get = codes "GET"
method_text Post = codes "POST"
method_text Put = codes "PUT"
method_text Patch = codes "PATCH"
method_text Delete = codes "DELETE"

-- the number of a status code (RFC 9110 section 15, RFC 6585 section 5)
abbrev pub status_number : StatusCode → ℕ
status_number status.Ok = 200
status_number status.Created = 201
status_number status.BadRequest = 400
status_number status.Forbidden = 403
status_number status.NotFound = 404
status_number status.MethodNotAllowed = 405
status_number status.Conflict = 409
status_number status.Gone = 410
status_number status.ContentTooLarge = 413
status_number status.UnsupportedMediaType = 415
status_number status.ExpectationFailed = 417
status_number status.UnprocessableContent = 422
status_number status.RequestHeaderFieldsTooLarge = 431
status_number status.NotImplemented = 501
status_number status.ServiceUnavailable = 503
status_number status.GatewayTimeout = 504
status_number status.HttpVersionNotSupported = 505

-- the reason phrase of a status code (RFC 9110 section 15, RFC 6585 section 5)
abbrev pub status_phrase : StatusCode → List ℕ
status_phrase status.Ok = codes "OK"
status_phrase status.Created = codes "Created"
status_phrase status.BadRequest = codes "Bad Request"
status_phrase status.Forbidden = codes "Forbidden"
status_phrase status.NotFound = codes "Not Found"
status_phrase status.MethodNotAllowed = codes "Method Not Allowed"
status_phrase status.Conflict = codes "Conflict"
status_phrase status.Gone = codes "Gone"
status_phrase status.ContentTooLarge = codes "Content Too Large"
status_phrase status.UnsupportedMediaType = codes "Unsupported Media Type"
status_phrase status.ExpectationFailed = codes "Expectation Failed"
status_phrase status.UnprocessableContent = codes "Unprocessable Content"
status_phrase status.RequestHeaderFieldsTooLarge = codes "Request Header Fields Too Large"
status_phrase status.NotImplemented = codes "Not Implemented"
status_phrase status.ServiceUnavailable = codes "Service Unavailable"
status_phrase status.GatewayTimeout = codes "Gateway Timeout"
status_phrase status.HttpVersionNotSupported = codes "HTTP Version Not Supported"
