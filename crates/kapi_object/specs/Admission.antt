-- Which bodies are objects of a resource type: the tree that is kept, or what is wrong.
use Rattle.std.specs.Prelude.{ℕ, List, ◌++◌, length, Bool, true, false, not, ◌==◌, if◌then◌else◌, Option, Some, None, Result, Ok, Err, codes}
use Rattle.std.specs.Str.{bytes_eq}
use Rattle.serde_json.specs.Data.{Data, string, object, Members, no_members, put}
use Rattle.serde_json.specs.Find.{get}
use Rattle.serde_json.specs.Written.{has_float}
use Rattle.kapi_model.specs.declared.fault.FieldFault.{FieldFault}
use Rattle.kapi_object.specs.declared.object_error.ObjectError.{ObjectError}
use Rattle.kapi_object.specs.declared.object_error.ObjectError.TheVariants as error
use Rattle.kapi_object.specs.declared.body_fields.Given.{Given}
use Rattle.kapi_model.specs.declared.row.ResourceRow.{ResourceRow}
use Rattle.kapi_model.specs.declared.row.Schema.{Schema}
use Rattle.kapi_object.specs.Contents.{content_of}
use Rattle.kapi_object.specs.Faults.{faults_of}
use Rattle.kapi_object.specs.Given.{given_on}
use Rattle.kapi_object.specs.Tree.{json_object, is_empty_object, metadata_member, put_if, with_metadata}
use Rattle.kapi_object.specs.Shapes.{typed_faults}

-- ---- the tree that is kept

-- the members with the entries, if there are any
abbrev pub put_entries : List ℕ → Option Data → Members → Members
put_entries key None ms = ms
put_entries key (Some d) ms = if is_empty_object d then ms else put key d ms

-- the labels and the annotations, if there are any
abbrev pub kept_entries : Data → Members
kept_entries tree =
    put_entries (codes "annotations") (metadata_member (codes "annotations") tree)
    (put_entries (codes "labels") (metadata_member (codes "labels") tree) no_members)

-- the name, the labels and the annotations, if there are any
abbrev pub kept_names : Data → Members
kept_names tree = put_if (codes "name") (metadata_member (codes "name") tree) (kept_entries tree)

-- the entries that are kept, and the namespace on resource types with namespaces
abbrev pub kept_place : ResourceRow → Data → Members
kept_place row tree = if row.namespaced then put_if (codes "namespace") (metadata_member (codes "namespace") tree) (kept_names tree) else kept_names tree

-- the metadata that is kept, with the resource version; every other member of the metadata is dropped
unfoldable pub kept_metadata : ResourceRow → Data → Members
kept_metadata row tree = put_if (codes "resourceVersion") (metadata_member (codes "resourceVersion") tree) (kept_place row tree)

-- the `apiVersion` of a resource type's objects: the group and the version, or the version alone in the core group
-- (Kubernetes, 'API Overview')
abbrev pub version_of : ResourceRow → List ℕ
version_of row = if length row.group == 0 then row.version else row.group ++ codes "/" ++ row.version

-- what is kept beside the metadata, with kind and version filled in
abbrev pub filled : ResourceRow → Data → Data
filled row tree = object (put (codes "kind") (string row.kind) (put (codes "apiVersion") (string (version_of row)) (content_of row.schema tree)))

-- the tree as the resource type keeps it
unfoldable pub kept_tree : ResourceRow → Data → Data
kept_tree row tree = with_metadata (kept_metadata row tree) (filled row tree)

-- ---- the whole

-- why a body is no object of a resource type
pub data BodyFault : Type 0 where
  not_json : BodyFault
  float : BodyFault
  wrong_kind : BodyFault
  wrong_version : BodyFault
  invalid : Given → List FieldFault → BodyFault

-- the fault that an error reports; running out of memory is none
abbrev pub told : ObjectError → Option BodyFault
told error.NotJson = Some not_json
told error.Float = Some float
told error.WrongKind = Some wrong_kind
told error.WrongVersion = Some wrong_version
told (error.Invalid given faults) = Some (invalid given faults)
told error.Memory = None

-- what is wrong with a tree of a resource type with this schema, in order
unfoldable pub faults_on : Schema → Data → List FieldFault
faults_on schema tree = faults_of tree ++ typed_faults schema tree

-- the tree as it is kept for the resource type, or the list of its faults
unfoldable pub admitted : ResourceRow → Data → Result Data BodyFault
admitted row tree =
    if length (faults_on row.schema tree) == 0 then Ok (kept_tree row tree) else Err (invalid (given_on row tree) (faults_on row.schema tree))

-- whether the value is present and another than the wanted text
abbrev pub is_other : List ℕ → Option Data → Bool
is_other text None = false
is_other text (Some (string s)) = not (bytes_eq s text)
is_other text (Some _) = true

-- a JSON object without floats, of the resource type's kind and version, with no fault
unfoldable pub read_as : ResourceRow → Option Data → Result Data BodyFault
read_as row None = Err not_json
read_as row (Some tree) =
    if has_float tree then Err float
    else (if is_other row.kind (get (codes "kind") tree) then Err wrong_kind
    else (if is_other (version_of row) (get (codes "apiVersion") tree) then Err wrong_version
    else admitted row tree))

-- the tree that a body of the resource type is kept as, or the first of the reasons why not
abbrev pub object_of : ResourceRow → List ℕ → Result Data BodyFault
object_of row text = read_as row (json_object text)
