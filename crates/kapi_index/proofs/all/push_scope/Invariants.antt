use Rattle.std.proofs.Common.{◌≡◌, ◌++◌, map}
use Rattle.kapi_policy.specs.Views.{binding_of}
use Rattle.kapi_index.specs.Contents.{binding_at}
use Rattle.kapi_index.specs.Scopes.{bare}
use Rattle.kapi_index.proofs.all.push_scope.Given as goal

abbrev pub invariant-loop-name : goal.invariant-loop-name
invariant-loop-name l =
    map binding_of l.list.items ++ map (binding_at l.fn.kind l.namespace) (bare l.name-iterator)
    ≡ map binding_of l.initial.list.items ++ map (binding_at l.fn.kind l.namespace) l.scope.bindings
