-- Events as JSON text (Kubernetes, 'Efficient detection of changes').
use Rattle.std.specs.Prelude.{ℕ, List, Option, Some, None, codes}
use Rattle.serde_json.specs.Data.{Data, member, no_members, object, string}
use Rattle.serde_json.specs.Written.{compact_text}
use Rattle.kapi_watch.specs.Shown.{Shown, Added, Modified, Deleted, Expired, Refused}

-- the type of an event
abbrev pub type_of : Shown → List ℕ
type_of (Added d) = codes "ADDED"
type_of (Modified d) = codes "MODIFIED"
type_of (Deleted d) = codes "DELETED"
type_of Expired = codes "ERROR"
type_of Refused = codes "ERROR"

-- the text of the object that an event shows; the end of a watch shows no object of the store
abbrev pub object_text_of : Shown → Option (List ℕ)
object_text_of (Added d) = Some (compact_text d)
object_text_of (Modified d) = Some (compact_text d)
object_text_of (Deleted d) = Some (compact_text d)
object_text_of Expired = None
object_text_of Refused = None

-- an event of a type with an object: {"object":..,"type":..}
abbrev pub event_tree : List ℕ → Data → Data
event_tree kind d = object (member (codes "object") d (member (codes "type") (string kind) no_members))
