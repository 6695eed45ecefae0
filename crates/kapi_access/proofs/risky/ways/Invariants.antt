use Rattle.std.proofs.Common.{◌≡◌, [], take}
use Rattle.std.specs.List.{flat_map, fold}
use Rattle.kapi_policy.specs.Views.{binding_of}
use Rattle.kapi_access.specs.Risks.{is_risky}
use Rattle.kapi_access.specs.Who.{ways_of, with_way}
use Rattle.kapi_access.specs.declared.first_ways.Listed.TheVariants as listed
use Rattle.kapi_access.proofs.risky.ways.Given as goal

abbrev pub invariant-loop-binding : goal.invariant-loop-binding
invariant-loop-binding g l =
    l.found
    ≡ fold with_way (record { listed = listed.InEachScope; list = [] }) (flat_map (λ b. ways_of (g.P.Policy.content l.policy) is_risky (binding_of b)) (take l.binding-index l.bindings))
