use Rattle.std.proofs.Common.{◌≡◌}
use Rattle.std.specs.Prelude.{map}
use Rattle.kapi_index.specs.Points.{point_of}
use Rattle.kapi_policy.specs.Decided.{first_some, granted_by}
use Rattle.kapi_index.specs.Contents.{binding_at}
use Rattle.kapi_index.specs.Scopes.{bare}
use Rattle.kapi_index.proofs.walk.grant_of_each.Given as goal

abbrev pub invariant-loop-name : goal.invariant-loop-name
invariant-loop-name l =
    first_some (granted_by l.policy l.asker.identity.now (point_of l.asked)) (map (binding_at l.fn.kind l.scope.namespace) (bare l.name-iterator))
    ≡ first_some (granted_by l.policy l.asker.identity.now (point_of l.asked)) (map (binding_at l.fn.kind l.scope.namespace) l.scope.bindings)
