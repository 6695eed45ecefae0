-- What an answer unfolds to compute requests and replies on literals.
use Rattle.std.specs.Prelude.{⊤}
use Rattle.std.specs.Str.{is_utf8, chars}
use Rattle.std.specs.Fmt.{digits}
use lib.Utf8.{encode}
use Rattle.httparse.proofs.OnLiterals.{httparse_on_literals}
use Rattle.kapi_http.specs.Chunks.{chunked, joined}
use Rattle.kapi_http.specs.Cut.{cut, cut_by, first, settled, taken}
use Rattle.kapi_http.specs.Fields.{lists, values}
use Rattle.kapi_http.specs.Head.{head_of, is_head, parts, section_at}
use Rattle.kapi_http.specs.Reply.{text}
use Rattle.kapi_http.specs.Rules.{checked, content_length, framing, framing_by, method_named}
use Rattle.kapi_http.specs.Scan.{scanned}

unfoldable pub http_on_literals : ⊤
unfolding first settled scanned cut cut_by taken values lists head_of is_head parts section_at framing framing_by checked content_length method_named chunked joined text is_utf8 chars encode digits httparse_on_literals
http_on_literals = tt
