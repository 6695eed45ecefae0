use Rattle.std.proofs.Common.{◌≡◌, take}
use Rattle.std.specs.List.{flat_map}
use Rattle.kapi_policy.specs.Views.{binding_of}
use Rattle.kapi_access.specs.Given.{given_by}
use Rattle.kapi_access.proofs.rights_of.given_by_all.Given as goal

abbrev pub invariant-loop-binding : goal.invariant-loop-binding
invariant-loop-binding g l = l.list.items ≡ flat_map (λ b. given_by (g.P.Policy.content l.policy) l.identity (binding_of b)) (take l.binding-index l.bindings)
