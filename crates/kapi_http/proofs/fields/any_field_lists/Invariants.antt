use Rattle.std.proofs.Common.{◌≡◌, drop}
use Rattle.std.specs.List.{list_any}
use Rattle.kapi_http.specs.Fields.{fields_at, lists, values}
use Rattle.kapi_http.proofs.fields.any_field_lists.Given as goal

abbrev pub invariant-loop-header : goal.invariant-loop-header
invariant-loop-header l =
    list_any (lists l.word) (values l.name (fields_at l.bytes (drop l.header-index l.headers)))
    ≡ list_any (lists l.word) (values l.name (fields_at l.bytes l.headers))
