use Rattle.std.proofs.Common.{◌≡◌, drop}
use Rattle.kapi_http.specs.Fields.{fields_at, values}
use Rattle.kapi_http.proofs.fields.first_named.Given as goal

abbrev pub invariant-loop-header : goal.invariant-loop-header
invariant-loop-header l =
    values l.name (fields_at l.bytes (drop l.header-index l.headers)) ≡ values l.name (fields_at l.bytes l.headers)
