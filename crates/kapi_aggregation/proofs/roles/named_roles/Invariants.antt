use Rattle.std.proofs.Common.{◌≡◌, map, take}
use Rattle.kapi_store.specs.Listing.{shown}
use Rattle.kapi_store.specs.Plain.{trees}
use Rattle.kapi_aggregation.specs.Roles.{roles_in}
use Rattle.kapi_aggregation.specs.Views.{labelled}
use Rattle.kapi_aggregation.proofs.roles.named_roles.Given as goal

abbrev pub invariant-loop-listed : goal.invariant-loop-listed
invariant-loop-listed l = map labelled l.roles.items ≡ roles_in (trees (map shown (take l.listed-index l.list)))
