-- A list of objects (Kubernetes API conventions, 'Lists and Simple kinds').
use Rattle.std.specs.Prelude.{ℕ, List, ◌++◌, codes, decimal}
use Rattle.serde_json.specs.Data.{Data, array, member, no_members, object, string}
use Rattle.serde_json.specs.View.{items_of}
use Rattle.kapi_model.specs.declared.row.ResourceRow.{ResourceRow}
use Rattle.kapi_object.specs.Admission.{version_of}

-- the list of some objects at a revision:
-- {"apiVersion":V,"items":[..],"kind":KINDList,"metadata":{"resourceVersion":R}}
unfoldable pub list_tree : ResourceRow → List Data → ℕ → Data
list_tree row trees revision = object
    (member (codes "apiVersion") (string (version_of row))
    (member (codes "items") (array (items_of trees))
    (member (codes "kind") (string (row.kind ++ codes "List"))
    (member (codes "metadata") (object (member (codes "resourceVersion") (string (decimal revision)) no_members)) no_members))))
