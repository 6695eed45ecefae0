-- Loading of the objects that a server begins with: each is created on behalf of no identity, at its own place.
use Rattle.std.specs.Prelude.{◌==◌, Bool, false, not, ◌&&◌, is_some, if◌then◌else◌, ℕ, List, [], length, codes, Option, Some, None, Result, Ok, Err, ok_or}
use Rattle.std.specs.List.{find}
use Rattle.std.specs.Str.{bytes_eq}
use Rattle.serde_json.specs.Data.{Data, string}
use Rattle.serde_json.specs.Find.{get}
use Rattle.kapi_text.specs.ResultIs.{◌>>=◌}
use Rattle.kapi_model.specs.declared.row.ResourceRow.{ResourceRow}
use Rattle.kapi_object.specs.Given.{given_of}
use Rattle.kapi_object.specs.declared.body_fields.GivenText.{GivenText}
use Rattle.kapi_object.specs.declared.body_fields.GivenText.TheVariants as given
use Rattle.kapi_object.specs.Admission.{read_as, version_of}
use Rattle.kapi_reply.specs.Refusals.{asked_for}
use Rattle.kapi_reply.specs.declared.refusal.BadRequestReason.TheVariants as word
use Rattle.kapi_reply.specs.declared.refusal.Refusal.{Refusal}
use Rattle.kapi_reply.specs.declared.refusal.Refusal.TheVariants as refusal
use Rattle.kapi_reply.specs.declared.refusal.Refused.{Refused}
use Rattle.kapi_store.specs.Plain.{Plain, PlainChange, creation_in_place}
use Rattle.kapi_store.specs.declared.key.Key.{Key}
use Rattle.kapi_answer.specs.Create.{admitted_from, stored, to_place}
use Rattle.kapi_answer.specs.Review.{review_kind}
use Rattle.kapi_answer.specs.Update.{patch_of}
use Rattle.kapi_answer.specs.declared.loading.LoadError.{LoadError}
use Rattle.kapi_answer.specs.declared.loading.LoadError.TheVariants as error

-- why an object is not loaded: its kind is not served, or its creation is refused, for the object or by the store
pub data LoadFault : Type 0 where
  unknown_kind : LoadFault
  bad_object : Refused → LoadFault
  not_stored : Refused → LoadFault

-- the fault that an error reports; running out of memory is none
abbrev pub model_of_fault : LoadError → Option LoadFault
model_of_fault error.UnknownKind = Some unknown_kind
model_of_fault (error.Object refused) = Some (bad_object refused)
model_of_fault (error.Store refused) = Some (not_stored refused)
model_of_fault error.Memory = None

-- the value is the text
abbrev pub is_text : List ℕ → Option Data → Bool
is_text text None = false
is_text text (Some (string s)) = bytes_eq s text
is_text text (Some _) = false

-- the tree has the resource type's kind and version
abbrev pub is_kind_of : Data → ResourceRow → Bool
is_kind_of tree row = is_text row.kind (get (codes "kind") tree) && is_text (version_of row) (get (codes "apiVersion") tree)

-- the tree has the kind and version of a resource type whose objects are kept (reviews are not)
abbrev pub is_kept_kind : Data → ResourceRow → Bool
is_kept_kind tree row = not (is_some (review_kind row)) && is_kind_of tree row

-- the namespace of the place: on a resource type with namespaces a text that is not empty
abbrev pub named_namespace : GivenText → Option (List ℕ)
named_namespace given.Absent = None
named_namespace given.Mistyped = None
named_namespace (given.Text text) = if length text == 0 then None else Some text

-- the namespace of the place of an object of a resource type; without namespaces it is empty
unfoldable pub namespace_in : ResourceRow → GivenText → Option (List ℕ)
namespace_in row given = if row.namespaced then named_namespace given else Some []

-- the place and the tree of the object that a tree is, by the checks of its creation at the place that it names
unfoldable pub to_named : Plain → Data → Result (Key × Data) Refused
to_named s tree = do
  row ← ok_or (find (is_kept_kind tree) s.table) (asked_for refusal.NoSuchResource)
  namespace ← ok_or (namespace_in row (given_of tree).namespace) (asked_for (refusal.BadRequest word.Namespace))
  body ← admitted_from (read_as row (Some tree))
  to_place s row namespace body

-- the changes that the creation of the object in a text makes, or its refusal
unfoldable pub creates_named : Plain → List ℕ → Result (List PlainChange) Refused
creates_named s text = do
  tree ← patch_of text
  new ← to_named s tree
  stored new.0.name (creation_in_place s new.0 new.1)

-- why an object is not loaded whose creation is refused so, for this reason
unfoldable pub fault_for : Refusal → Refused → LoadFault
fault_for refusal.NoSuchResource refused = unknown_kind
fault_for (refusal.NotFound sought) refused = not_stored refused
fault_for refusal.AlreadyExists refused = not_stored refused
fault_for refusal.NoRevisionLeft refused = not_stored refused
fault_for _ refused = bad_object refused

-- the result of a creation, with its refusal as a load fault
abbrev pub on_load : {X : Type 0} → Result X Refused → Result X LoadFault
on_load (Ok x) = Ok x
on_load (Err refused) = Err (fault_for refused.why refused)

-- the changes that the loading of a text makes: those of its creation
unfoldable pub loads : Plain → List ℕ → Result (List PlainChange) LoadFault
loads s text = on_load (creates_named s text)
