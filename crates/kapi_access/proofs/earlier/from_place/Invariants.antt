use Rattle.std.proofs.Common.{◌≡◌, length}
use Rattle.kapi_policy.specs.Views.{binding_of}
use Rattle.kapi_access.specs.Earlier.{bindings_at, from_place}
use Rattle.kapi_access.proofs.earlier.from_place.Given as goal

abbrev pub invariant-loop-rest : goal.invariant-loop-rest
invariant-loop-rest l = from_place (binding_of l.binding) (bindings_at l.rest) ≡ from_place (binding_of l.binding) (bindings_at l.earlier)

abbrev pub decreases-loop-rest : goal.decreases-loop-rest
decreases-loop-rest l = length l.rest
