-- What contracts see of the cluster roles that are read.
use Rattle.std.specs.Prelude.{List, map}
use Rattle.kapi_aggregation.specs.Roles.{Labelled}
use Rattle.kapi_aggregation.specs.Views.{labelled}
use Rattle.kapi_aggregation.specs.declared.roles.ClusterRoles.{ClusterRoles}

-- the cluster roles, in their order
abbrev pub roles_of : ClusterRoles → List Labelled
roles_of roles = map labelled roles.list.items
