use Rattle.std.proofs.Common.{◌≡◌, ◌+◌, drop}
use Rattle.std.specs.List.{position_or_len}
use Rattle.kapi_store.specs.Lent.{changes_of}
use Rattle.kapi_watch.proofs.Scopes.{is_in_scope}
use Rattle.kapi_watch.proofs.scope.WatchScope.next_within.Given as goal

abbrev pub invariant-loop-index : goal.invariant-loop-index
invariant-loop-index l =
    l.from + position_or_len (λ c. is_in_scope l.self c.key) (drop l.from (changes_of l.changes))
    ≡ l.index + position_or_len (λ c. is_in_scope l.self c.key) (drop l.index (changes_of l.changes))
