-- Roles by their names.
use Rattle.std.proofs.Common.{◌≡◌, ℕ, List, [], ◌∷◌, true, false, cond, Some, option_map, map, refl}
use Rattle.std.specs.List.{find}
use Rattle.std.specs.Str.{bytes_eq}
use Rattle.kapi_aggregation.specs.Roles.{role_named}
use Rattle.kapi_aggregation.specs.Views.{labelled}
use Rattle.kapi_aggregation.specs.declared.roles.NamedRole.{NamedRole}

-- finding a role by its name among the views returns the view of the role found by its name
pub named_mapped : (roles : List NamedRole) (name : List ℕ)
    → role_named (map labelled roles) name ≡ option_map labelled (find (λ r. bytes_eq r.name.now name) roles)
named_mapped [] name = refl
named_mapped (r ∷ roles) name =
    elim (bytes_eq r.name.now name) as (λ b. cond b (Some (labelled r)) (role_named (map labelled roles) name)
    ≡ option_map labelled (cond b (Some r) (find (λ r. bytes_eq r.name.now name) roles))) [
      | true ↦ refl
      | false ↦ named_mapped roles name
    ]
