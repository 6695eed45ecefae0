use Rattle.std.proofs.Common.{ap, ◌∙◌}
use Rattle.std.specs.List.{flat_map}
use Rattle.kapi_rules.specs.Rules.{allows}
use Rattle.kapi_policy.specs.Views.{binding_of}
use Rattle.kapi_access.specs.Views.{ways_there}
use Rattle.kapi_access.specs.Who.{first_ways}
use Rattle.kapi_access.specs.declared.first_ways.Listed.{Listed}
use Rattle.kapi_access.proofs.Walks.{who_by_all}
use Rattle.kapi_access.proofs.allowed.who.Goals as goal

pub returns : goal.returns
returns g c =
    let objects = g.P.Policy.content c.args.policy.now in
    c.in_ok-list.ensures
    ∙ ap (λ (l : Listed). first_ways l (flat_map (λ b. ways_there objects (λ rule. allows rule c.args.point.now) c.args.scope.now (binding_of b)) c.args.bindings.now)) c.listed_in-listed.ensures
    ∙ who_by_all objects c.args.point.now c.args.bindings.now c.requires c.args.scope.now
