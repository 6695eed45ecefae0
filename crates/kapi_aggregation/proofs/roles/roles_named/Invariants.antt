use Rattle.std.proofs.Common.{◌≡◌, ◌++◌, map}
use Rattle.kapi_store.specs.Plain.{plain_of}
use Rattle.kapi_aggregation.specs.Marks.{takers_in}
use Rattle.kapi_aggregation.specs.Views.{labelled}
use Rattle.kapi_aggregation.proofs.roles.roles_named.Given as goal

abbrev pub invariant-loop-name : goal.invariant-loop-name
invariant-loop-name l = map labelled l.roles.items ++ takers_in (plain_of l.store).objects l.name-iterator ≡ takers_in (plain_of l.store).objects l.names.keys
