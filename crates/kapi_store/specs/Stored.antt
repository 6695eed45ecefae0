-- What contracts see of a stored object: its tree.
use Rattle.serde_json.specs.Data.{Data}
use Rattle.kapi_store.specs.Labels.{told_by}
use Rattle.kapi_store.specs.declared.stored.StoredObject.{StoredObject}

-- the object as JSON data
abbrev pub stored_tree : StoredObject → Data
stored_tree s = told_by s.text
