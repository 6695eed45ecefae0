use Rattle.std.proofs.Common.{◌≡◌, drop}
use Rattle.std.specs.List.{list_any}
use Rattle.kapi_store.specs.Private.Hidden.{visible}
use Rattle.kapi_store.specs.Private.Span.{row_holds}
use Rattle.kapi_store.proofs.namespaces.any_stands_in.Given as goal

abbrev pub invariant-loop-row : goal.invariant-loop-row
invariant-loop-row l =
    list_any (row_holds (visible l.hidden l.slots.entries) l.namespace) (drop l.row-index l.table) ≡ list_any (row_holds (visible l.hidden l.slots.entries) l.namespace) l.table
