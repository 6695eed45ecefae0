-- The checks of a create, from its body on (Kubernetes, 'Kubernetes API Concepts', 'Object Names and IDs').
use Rattle.std.specs.Prelude.{ℕ, ◌==◌, Bool, true, false, if◌then◌else◌, List, [], ◌∷◌, length, codes, Option, Some, None, Result, Ok, Err}
use Rattle.std.specs.Str.{bytes_eq}
use Rattle.serde_json.specs.Data.{Data}
use Rattle.serde_json.specs.Written.{compact_text}
use Rattle.kapi_text.specs.ResultIs.{◌>>=◌}
use Rattle.kapi_http.specs.declared.message.StatusCode.TheVariants as status
use Rattle.kapi_object.specs.Admission.{BodyFault, float, invalid, not_json, object_of, wrong_kind, wrong_version}
use Rattle.kapi_object.specs.Given.{given_of}
use Rattle.kapi_model.specs.Names.{is_name_on}
use Rattle.kapi_object.specs.Tree.{with_text, without_member}
use Rattle.kapi_model.specs.declared.fault.FaultKind.{FaultKind}
use Rattle.kapi_model.specs.declared.fault.FaultKind.TheVariants as cause
use Rattle.kapi_model.specs.declared.fault.FieldFault.{FieldFault}
use Rattle.kapi_object.specs.declared.body_fields.Given.{Given}
use Rattle.kapi_object.specs.declared.body_fields.GivenText.{GivenText}
use Rattle.kapi_object.specs.declared.body_fields.GivenText.TheVariants as given
use Rattle.kapi_model.specs.declared.row.ResourceRow.{ResourceRow}
use Rattle.kapi_reply.specs.Refusals.{asked_for, named}
use Rattle.kapi_reply.specs.declared.reply.Content.TheVariants as content
use Rattle.kapi_reply.specs.declared.refusal.BadRequestReason.TheVariants as word
use Rattle.kapi_reply.specs.declared.refusal.Refusal.{Refusal}
use Rattle.kapi_reply.specs.declared.refusal.Refusal.TheVariants as refusal
use Rattle.kapi_reply.specs.declared.refusal.Refused.{Refused}
use Rattle.kapi_reply.specs.declared.refusal.Nonexistent.TheVariants as sought
use Rattle.kapi_store.specs.Faults.{StoreFault, Exists, Missing, Conflict, NoNamespace, NamespaceNotEmpty, RevisionsUsedUp}
use Rattle.kapi_store.specs.Plain.{Plain, PlainChange, creation_in_place, free_place}
use Rattle.kapi_store.specs.declared.key.Key.{Key}
use Rattle.kapi_answer.specs.Response.{Response}

-- a body that is an object of its kind and version: its name, namespace and generated name, and its tree or its faults
pub record Admitted : Type 0 where
  pub given : Given
  pub object : Result Data (List FieldFault)

-- what a body was read as
unfoldable pub admitted_from : Result Data BodyFault → Result Admitted Refused
admitted_from (Ok tree) = Ok (record { given = given_of tree; object = Ok tree })
admitted_from (Err (invalid given faults)) = Ok (record { given = given; object = Err faults })
admitted_from (Err not_json) = Err (asked_for (refusal.BadRequest word.Json))
admitted_from (Err float) = Err (asked_for (refusal.BadRequest word.Float))
admitted_from (Err wrong_kind) = Err (asked_for (refusal.BadRequest word.Kind))
admitted_from (Err wrong_version) = Err (asked_for (refusal.BadRequest word.Version))

-- the body is a JSON object of the resource type's kind and version
abbrev pub admitted : ResourceRow → List ℕ → Result Admitted Refused
admitted row bytes = admitted_from (object_of row bytes)

-- a body is refused for its name alone
abbrev pub invalid_name : List ℕ → FaultKind → Refused
invalid_name name why = named name (refusal.Invalid (record { field = codes "metadata.name"; cause = why } ∷ []))

-- the text is a name that objects of the resource type may have
unfoldable pub name_text : ResourceRow → List ℕ → Result (List ℕ) Refused
name_text row name =
    if length name == 0 then Err (invalid_name name cause.Required)
    else (if is_name_on row name then Ok name else Err (invalid_name name cause.BadValue))

-- the body gives a name that objects of the resource type may have
unfoldable pub given_name : ResourceRow → GivenText → Result (List ℕ) Refused
given_name row given.Absent = Err (invalid_name [] cause.Required)
given_name row given.Mistyped = Err (invalid_name [] cause.WrongType)
given_name row (given.Text name) = name_text row name

-- a name or namespace that the body gives is the path's
abbrev pub is_as_in_path : List ℕ → GivenText → Bool
is_as_in_path text given.Absent = true
is_as_in_path text given.Mistyped = false
is_as_in_path text (given.Text given) = bytes_eq given text

-- the body gives no other namespace than the path's
unfoldable pub in_namespace : List ℕ → List ℕ → GivenText → Result (Unit {0}) Refused
in_namespace namespace name given =
    if is_as_in_path namespace given then Ok tt else Err (named name (refusal.BadRequest word.Namespace))

-- the namespace of a place of a resource type: cluster-scoped objects have none
abbrev pub namespace_on : ResourceRow → List ℕ → List ℕ
namespace_on row namespace = if row.namespaced then namespace else []

-- the place of the object of a resource type, a namespace and a name
abbrev pub key_at : ResourceRow → List ℕ → List ℕ → Key
key_at row namespace name = record { group = row.group; resource = row.plural; namespace = namespace; name = name }

-- the place of an object of a resource type: cluster-scoped objects have no namespace
abbrev pub key_of : ResourceRow → List ℕ → List ℕ → Key
key_of row namespace name = key_at row (namespace_on row namespace) name

-- the refusal that reports a fault of the store
unfoldable pub refusal_of : StoreFault → Refusal
refusal_of Exists = refusal.AlreadyExists
refusal_of NoNamespace = refusal.NotFound sought.Namespace
refusal_of RevisionsUsedUp = refusal.NoRevisionLeft
refusal_of Missing = refusal.NotFound sought.Object
refusal_of (Conflict version) = refusal.Conflict version
refusal_of NamespaceNotEmpty = refusal.NamespaceNotEmpty

-- the store's answer as an answer to the request
abbrev pub stored : {X : Type 0} → List ℕ → Result X StoreFault → Result X Refused
stored name (Ok x) = Ok x
stored name (Err fault) = Err (named name (refusal_of fault))

-- the body has no fault
unfoldable pub valid : List ℕ → Result Data (List FieldFault) → Result Data Refused
valid name (Ok tree) = Ok tree
valid name (Err faults) = Err (named name (refusal.Invalid faults))

-- the tree without its status, if that is a subresource of its own (Kubernetes API conventions, 'Spec and Status')
abbrev pub without_status : ResourceRow → Data → Data
without_status row tree = if row.has_status then without_member (codes "status") tree else tree

-- the tree with the namespace of its path, where objects of the resource type live in namespaces
abbrev pub with_namespace_on : ResourceRow → List ℕ → Data → Data
with_namespace_on row namespace tree = if row.namespaced then with_text (codes "namespace") namespace tree else tree

-- the tree as it is stored at first: without a status of its own, with the namespace of its path
abbrev pub in_place : ResourceRow → List ℕ → Data → Data
in_place row namespace tree = with_namespace_on row namespace (without_status row tree)

-- the object that a write leaves, as JSON text
abbrev pub tree_text : Option Data → List ℕ
tree_text (Some tree) = compact_text tree
tree_text None = []

-- the object that a write leaves at a place where an object may have been, as JSON text
abbrev pub text_after : Option Data → List PlainChange → List ℕ
text_after old [] = tree_text old
text_after old (change ∷ more) = tree_text change.new

-- the place and the tree of the object that a body was read as: name, namespace, place, validity
unfoldable pub to_place : Plain → ResourceRow → List ℕ → Admitted → Result (Key × Data) Refused
to_place s row namespace body = do
  name ← given_name row body.given.name
  same ← in_namespace namespace name body.given.namespace
  free ← stored name (free_place s (key_of row namespace name))
  tree ← valid name body.object
  Ok (key_of row namespace name, in_place row namespace tree)

-- the place and the tree of the object that is to be created, from its body on
unfoldable pub to_create : Plain → ResourceRow → List ℕ → List ℕ → Result (Key × Data) Refused
to_create s row namespace bytes = do
  body ← admitted row bytes
  to_place s row namespace body

-- the reply to a creation by some changes
abbrev pub created : List PlainChange → Result Response Refused
created changes = Ok (record { code = status.Created; content = content.Json; body = text_after None changes; changes = changes })

-- the creation of an object: a revision must be left
unfoldable pub creates : Plain → Key × Data → Result Response Refused
creates s new = stored new.0.name (creation_in_place s new.0 new.1) >>= created
