use Rattle.std.proofs.Common.{◌≡◌, ◌+◌, ◌≤◌, length, drop}
use Rattle.kapi_http.specs.Fields.{fields_at, values}
use Rattle.kapi_http.proofs.fields.count_named.Given as goal

abbrev pub invariant-loop-header : goal.invariant-loop-header
invariant-loop-header l =
    (l.count + length (values l.name (fields_at l.bytes (drop l.header-index l.headers))) ≡ length (values l.name (fields_at l.bytes l.headers)))
    × (l.count ≤ l.header-index)
