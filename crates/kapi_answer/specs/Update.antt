-- The checks of an update and of a patch (Kubernetes, 'Kubernetes API Concepts', API verbs; RFC 7396; Kubernetes API
-- conventions, 'Concurrency Control and Consistency' and 'Spec and Status').
use Rattle.std.specs.Prelude.{ℕ, if◌then◌else◌, List, codes, Option, Some, Result, Ok, Err, ok_or}
use Rattle.std.specs.Map.{lookup}
use Rattle.serde_json.specs.Data.{Data}
use Rattle.kapi_text.specs.ResultIs.{◌>>=◌}
use Rattle.kapi_object.specs.Admission.{read_as}
use Rattle.kapi_http.specs.declared.message.StatusCode.TheVariants as status
use Rattle.kapi_model.specs.declared.row.ResourceRow.{ResourceRow}
use Rattle.kapi_object.specs.Tree.{json_object, with_member_of, with_text}
use Rattle.kapi_object.specs.declared.body_fields.GivenText.{GivenText}
use Rattle.kapi_object.specs.Merge.{merged}
use Rattle.kapi_reply.specs.Refusals.{asked_for, named}
use Rattle.kapi_reply.specs.declared.reply.Content.TheVariants as content
use Rattle.kapi_reply.specs.declared.refusal.BadRequestReason.TheVariants as word
use Rattle.kapi_reply.specs.declared.refusal.Refusal.TheVariants as refusal
use Rattle.kapi_reply.specs.declared.refusal.Refused.{Refused}
use Rattle.kapi_answer.specs.declared.route.ObjectPart.{ObjectPart}
use Rattle.kapi_answer.specs.declared.route.ObjectPart.TheVariants as part
use Rattle.kapi_store.specs.Keys.{is_key}
use Rattle.kapi_store.specs.Plain.{Plain, PlainChange, replaceable, replacement_in_place}
use Rattle.kapi_store.specs.declared.key.Key.{Key}
use Rattle.kapi_answer.specs.Create.{Admitted, admitted, admitted_from, with_namespace_on, in_namespace, is_as_in_path, stored, text_after, valid}
use Rattle.kapi_answer.specs.Delete.{existing}
use Rattle.kapi_answer.specs.Response.{Response}

-- the body gives no other name than the path's
unfoldable pub in_name : List ℕ → GivenText → Result (Unit {0}) Refused
in_name name given = if is_as_in_path name given then Ok tt else Err (named name (refusal.BadRequest word.Name))

-- the tree with the old object's status, if the status is a subresource of its own
abbrev pub keeping_status : ResourceRow → Data → Data → Data
keeping_status row old tree = if row.has_status then with_member_of (codes "status") old tree else tree

-- the tree that is stored once a part of the old object is replaced by the same part of another: the other object with
-- its path's name and namespace and the old status, or the old object with the other's status
unfoldable pub replacing : ObjectPart → ResourceRow → Key → Data → Data → Data
replacing part.Object row k old tree = keeping_status row old (with_namespace_on row k.namespace (with_text (codes "name") k.name tree))
replacing part.Status row k old tree = with_member_of (codes "status") tree old

-- the tree to be stored at the key, for a body that was read: name, namespace, existence and version, validity
unfoldable pub to_replace : Plain → ResourceRow → ObjectPart → Key → Admitted → Result (Key × Data) Refused
to_replace s row of k body = do
  name ← in_name k.name body.given.name
  namespace ← in_namespace k.namespace k.name body.given.namespace
  old ← stored k.name (replaceable s k body.given.resource_version)
  tree ← valid k.name body.object
  Ok (k, replacing of row k old tree)

-- the tree to be stored by an update, from its body on
unfoldable pub to_update : Plain → ResourceRow → ObjectPart → Key → List ℕ → Result (Key × Data) Refused
to_update s row of k bytes = do
  body ← admitted row bytes
  to_replace s row of k body

-- a patch is a JSON object
abbrev pub patch_of : List ℕ → Result Data Refused
patch_of bytes = ok_or (json_object bytes) (asked_for (refusal.BadRequest word.Json))

-- the tree to be stored by a patch: it is merged into the stored object, and the result is checked as a body is
unfoldable pub to_patch : Plain → ResourceRow → ObjectPart → Key → List ℕ → Result (Key × Data) Refused
to_patch s row of k bytes = do
  patch ← patch_of bytes
  old ← existing s k
  body ← admitted_from (read_as row (Some (merged old patch)))
  to_replace s row of k body

-- the reply to a replacement by some changes
abbrev pub told_after : Option Data → List PlainChange → Result Response Refused
told_after old changes = Ok (record { code = status.Ok; content = content.Json; body = text_after old changes; changes = changes })

-- the replacement of the object at a key: if that changes something, a revision must be left
unfoldable pub replaces : Plain → Key × Data → Result Response Refused
replaces s new = stored new.0.name (replacement_in_place s new.0 new.1) >>= told_after (lookup (is_key new.0) s.objects)
