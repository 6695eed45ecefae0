use Rattle.std.proofs.Common.{◌≡◌, length, map}
use Rattle.kapi_index.specs.Points.{point_of}
use Rattle.std.specs.Range.Bound.{bound_map}
use Rattle.kapi_policy.specs.Decided.{first_some, granted_by}
use Rattle.kapi_index.specs.Contents.{binding_at}
use Rattle.kapi_index.specs.Scopes.{left}
use Rattle.kapi_index.proofs.walk.grant_of_many.Given as goal

abbrev pub invariant-loop-name : goal.invariant-loop-name
invariant-loop-name l =
    first_some (granted_by l.policy l.identity (point_of l.asked)) (map (binding_at l.fn.kind l.scope.namespace) (left l.identity (bound_map (λ x. x.now) l.start) l.scope))
    ≡ first_some (granted_by l.policy l.identity (point_of l.asked)) (map (binding_at l.fn.kind l.scope.namespace) l.scope.bindings)

abbrev pub decreases-loop-name : goal.decreases-loop-name
decreases-loop-name l = length (left l.identity (bound_map (λ x. x.now) l.start) l.scope)
