use Rattle.std.proofs.Common.{◌≡◌, map, take}
use Rattle.kapi_http.specs.Cut.{header_of}
use Rattle.kapi_http.specs.Fields.{fields_at}
use Rattle.kapi_http.proofs.item.headers.Given as goal

abbrev pub invariant-loop-span : goal.invariant-loop-span
invariant-loop-span l = l.headers.items ≡ map header_of (fields_at l.head (take l.span-index l.spans))
