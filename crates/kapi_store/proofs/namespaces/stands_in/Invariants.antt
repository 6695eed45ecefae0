use Rattle.std.proofs.Common.{◌≡◌}
use Rattle.std.specs.List.{list_any}
use Rattle.kapi_store.specs.Private.Hidden.{visible}
use Rattle.kapi_store.specs.Private.Span.{is_of}
use Rattle.kapi_store.proofs.namespaces.stands_in.Given as goal

abbrev pub invariant-loop-key : goal.invariant-loop-key
invariant-loop-key l =
    list_any (λ e. is_of l.row l.namespace e.0) (visible l.hidden l.key-iterator) ≡ list_any (λ e. is_of l.row l.namespace e.0) (visible l.hidden l.slots.entries)
