use Rattle.std.proofs.Common.{◌≡◌, [], take}
use Rattle.std.specs.List.{flat_map, fold}
use Rattle.kapi_rules.specs.Rules.{allows}
use Rattle.kapi_policy.specs.Views.{binding_of}
use Rattle.kapi_access.specs.Views.{ways_there}
use Rattle.kapi_access.specs.Who.{with_way}
use Rattle.kapi_access.proofs.allowed.ways.Given as goal

abbrev pub invariant-loop-binding : goal.invariant-loop-binding
invariant-loop-binding g l =
    l.found
    ≡ fold with_way (record { listed = l.fn.listed; list = [] })
    (flat_map (λ b. ways_there (g.P.Policy.content l.policy) (λ rule. allows rule l.point) l.scope (binding_of b)) (take l.binding-index l.bindings))
