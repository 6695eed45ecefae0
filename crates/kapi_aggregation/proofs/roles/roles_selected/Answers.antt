use Rattle.std.proofs.Common.{◌∙◌, ap, map}
use Rattle.kapi_store.specs.Listing.{shown}
use Rattle.kapi_store.specs.Plain.{trees}
use Rattle.kapi_aggregation.proofs.Read.{if_ok, selected_roles}
use Rattle.kapi_aggregation.proofs.roles.roles_selected.Goals as goal

pub returns : goal.returns
returns c =
    if_ok c.named_roles.result _ _
    (λ v made. selected_roles c.in_ok-row.row c.args.selector.now _ _ _ c.in_ok-row.ensures.group c.in_ok-row.ensures.plural made
    (ap (λ xs. trees (map shown xs)) c.as_slice.ensures.value ∙ c.in_ok-list.ensures.trees)) c.named_roles.ensures
