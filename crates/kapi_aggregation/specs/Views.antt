-- What contracts see of a cluster role that is read.
use Rattle.kapi_store.specs.Stored.{stored_tree}
use Rattle.kapi_aggregation.specs.Roles.{Labelled, labelled_at}
use Rattle.kapi_aggregation.specs.declared.roles.NamedRole.{NamedRole}

-- a cluster role with its name and its labels
abbrev pub labelled : NamedRole → Labelled
labelled r = labelled_at r.name.now (stored_tree r.object.now)
