use Rattle.std.proofs.Common.{◌≡◌, drop}
use Rattle.std.specs.List.{list_any}
use Rattle.kapi_store.specs.Plain.{plain_of, is_full_namespace}
use Rattle.kapi_store.proofs.store.Store.holds_full.Given as goal

abbrev pub invariant-loop-key : goal.invariant-loop-key
invariant-loop-key l =
    list_any (is_full_namespace (plain_of l.self)) (drop l.key-index l.keys) ≡ list_any (is_full_namespace (plain_of l.self)) l.keys
