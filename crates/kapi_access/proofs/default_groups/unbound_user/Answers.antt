use Rattle.std.proofs.Common.{ap, ◌∷◌, ◌∙◌}
use Rattle.std.specs.List.{flat_map}
use Rattle.kapi_policy.specs.Decided.{Binding}
use Rattle.kapi_policy.specs.Views.{binding_of}
use Rattle.kapi_access.proofs.Walks.{flat_map_map}
use Rattle.kapi_access.specs.Grantees.{user_in, users_in}
use Rattle.kapi_access.proofs.default_groups.unbound_user.Goals as goal

pub returns : goal.returns
returns g c =
    c.in_ok-text.ensures
    ∙ ap (λ l. 120 ∷ l) (flat_map_map (λ (b : Binding). flat_map user_in b.subjects) binding_of c.args.bindings.now ∙ ap users_in c.requires)
