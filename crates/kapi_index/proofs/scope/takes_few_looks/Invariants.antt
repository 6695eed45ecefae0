use Rattle.std.proofs.Common.{◌≡◌, ◌+◌}
use Rattle.kapi_index.specs.Scopes.{bare, looks}
use Rattle.kapi_index.proofs.scope.takes_few_looks.Given as goal

abbrev pub invariant-loop-name : goal.invariant-loop-name
invariant-loop-name l = looks (bare l.bindings.entries) + l.left ≡ 8 + looks (bare l._name-iterator)
