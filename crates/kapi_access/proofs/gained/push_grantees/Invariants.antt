use Rattle.std.proofs.Common.{◌≡◌, ◌++◌, take, map}
use Rattle.std.specs.List.{flat_map}
use Rattle.kapi_policy.specs.Views.{binding_of}
use Rattle.kapi_access.specs.Gained.{gained_as}
use Rattle.kapi_access.specs.Grantees.{alone}
use Rattle.kapi_access.specs.Views.{gain_of}
use Rattle.kapi_access.proofs.gained.push_grantees.Given as goal

abbrev pub invariant-loop-to : goal.invariant-loop-to
invariant-loop-to g l =
    map gain_of l.list.items
    ≡ map gain_of l.initial.list.items ++ flat_map (λ to. gained_as (g.P.Policy.content l.before) (alone l.alone.identities l.alone.other to) to (binding_of l.binding) l.rules) (take l.to-index l.grantees)
