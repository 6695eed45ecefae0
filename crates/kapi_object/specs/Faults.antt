-- What is wrong with the metadata of a body.
use Rattle.std.specs.Prelude.{ℕ, List, [], ◌∷◌, ◌++◌, Bool, ◌&&◌, if◌then◌else◌, Option, Some, None, codes}
use Rattle.serde_json.specs.Data.{Data, string, object, Members, no_members, member}
use Rattle.kapi_object.specs.declared.metadata.Entries.{Entries}
use Rattle.kapi_object.specs.declared.metadata.Entries.TheVariants.{Labels, Annotations}
use Rattle.kapi_model.specs.declared.fault.FaultKind.TheVariants.{WrongType, BadValue}
use Rattle.kapi_model.specs.declared.fault.FieldFault.{FieldFault}
use Rattle.kapi_model.specs.Names.{is_label_key, is_label_value}
use Rattle.kapi_model.specs.FaultKind.{fault}
use Rattle.kapi_object.specs.Tree.{member_of, metadata_member}

-- metadata is an object, if there is one
abbrev pub metadata_faults : Option Data → List FieldFault
metadata_faults None = []
metadata_faults (Some (object ms)) = []
metadata_faults (Some _) = fault (codes "metadata") WrongType ∷ []

-- the key of labels and of annotations in metadata
abbrev pub key_of : Entries → List ℕ
key_of Labels = codes "labels"
key_of Annotations = codes "annotations"

-- the field at which faults of labels and annotations are reported
abbrev pub field_of : Entries → List ℕ
field_of Labels = codes "metadata.labels"
field_of Annotations = codes "metadata.annotations"

-- a label has a label's key and value; an annotation has a label's key and any text (Kubernetes, 'Labels and
-- Selectors', 'Annotations')
abbrev pub is_entry : Entries → List ℕ → List ℕ → Bool
is_entry Labels key value = is_label_key key && is_label_value value
is_entry Annotations key value = is_label_key key

-- what is wrong with one entry, reported at the field
unfoldable pub entry_faults : Entries → List ℕ → List ℕ → Data → List FieldFault
entry_faults sort field key (string value) = if is_entry sort key value then [] else fault field BadValue ∷ []
entry_faults sort field key _ = fault field WrongType ∷ []

-- what is wrong with the entries, by key
unfoldable pub members_faults : Entries → List ℕ → Members → List FieldFault
members_faults sort field no_members = []
members_faults sort field (member key d ms) = entry_faults sort field key d ++ members_faults sort field ms

-- entries are an object, if there are any
unfoldable pub entries_faults : Entries → List ℕ → Option Data → List FieldFault
entries_faults sort field None = []
entries_faults sort field (Some (object ms)) = members_faults sort field ms
entries_faults sort field (Some _) = fault field WrongType ∷ []

-- what is wrong with the labels or the annotations of a tree
abbrev pub faults_in : Entries → Data → List FieldFault
faults_in sort tree = entries_faults sort (field_of sort) (metadata_member (key_of sort) tree)

-- what is wrong with the metadata of a tree, in order
unfoldable pub faults_of : Data → List FieldFault
faults_of tree = (metadata_faults (member_of (codes "metadata") tree) ++ faults_in Labels tree) ++ faults_in Annotations tree
