use Rattle.std.proofs.Common.{◌≡◌, ◌++◌}
use Rattle.kapi_index.specs.Scopes.{bare}
use Rattle.kapi_index.proofs.scope.put_copies.Given as goal

abbrev pub invariant-loop-name : goal.invariant-loop-name
invariant-loop-name l = (l.copied.namespace ≡ l.initial.copied.namespace) × (l.copied.bindings ++ bare l.name-iterator ≡ bare l.bindings.entries)
