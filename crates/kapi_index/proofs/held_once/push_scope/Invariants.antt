use Rattle.std.proofs.Common.{◌++◌, length}
use Rattle.std.specs.Range.Bound.{bound_map}
use Rattle.kapi_policy.specs.Laws.{AreSameRules}
use Rattle.kapi_index.proofs.Walks.{all_given}
use Rattle.kapi_index.specs.Scopes.{left}
use Rattle.kapi_index.specs.Taken.{AreTaken}
use Rattle.kapi_index.proofs.held_once.push_scope.Given as goal

abbrev pub invariant-loop-name : goal.invariant-loop-name
invariant-loop-name l =
    AreSameRules (l.list.items ++ all_given l.policy l.identity l.fn.kind l.scope (left l.identity (bound_map (λ x. x.now) l.start) l.scope))
    (l.initial.list.items ++ all_given l.policy l.identity l.fn.kind l.scope l.scope.bindings)
    × AreTaken l.policy l.scope.namespace l.taken l.list.items

abbrev pub decreases-loop-name : goal.decreases-loop-name
decreases-loop-name l = length (left l.identity (bound_map (λ x. x.now) l.start) l.scope)
