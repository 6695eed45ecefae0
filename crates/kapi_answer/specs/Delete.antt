-- The checks of a deletion (Kubernetes API, meta/v1 DeleteOptions).
use Rattle.std.specs.Prelude.{◌==◌, Bool, true, false, ◌&&◌, if◌then◌else◌, ℕ, List, [], ◌∷◌, length, codes, Option, Some, None, Result, Ok, Err, ok_or}
use Rattle.std.specs.Option.{is_none}
use Rattle.std.specs.Map.{lookup}
use Rattle.serde_json.specs.Data.{Data, string, array, object}
use Rattle.serde_json.specs.Written.{compact_text}
use Rattle.kapi_text.specs.ResultIs.{◌>>=◌}
use Rattle.kapi_http.specs.declared.message.StatusCode.TheVariants as status
use Rattle.kapi_object.specs.Tree.{is_empty, is_empty_object, json_object, member_of}
use Rattle.kapi_reply.specs.Refusals.{asked_for}
use Rattle.kapi_reply.specs.Status.{Subject, deleted_status}
use Rattle.kapi_reply.specs.declared.reply.Content.TheVariants as content
use Rattle.kapi_reply.specs.declared.refusal.BadRequestReason.TheVariants as word
use Rattle.kapi_reply.specs.declared.refusal.Refusal.TheVariants as refusal
use Rattle.kapi_reply.specs.declared.refusal.Refused.{Refused}
use Rattle.kapi_reply.specs.declared.refusal.Nonexistent.TheVariants as sought
use Rattle.kapi_store.specs.Keys.{is_key}
use Rattle.kapi_store.specs.Plain.{Plain, PlainChange, removal}
use Rattle.kapi_store.specs.UidAndVersion.{uid_in}
use Rattle.kapi_store.specs.declared.key.Key.{Key}
use Rattle.kapi_answer.specs.Create.{stored}
use Rattle.kapi_answer.specs.Response.{Response}

-- nothing is asked for: the member is absent, or an empty text, list or object
abbrev pub is_unset : Option Data → Bool
is_unset None = true
is_unset (Some (string s)) = length s == 0
is_unset (Some (array items)) = is_empty items
is_unset (Some (object members)) = is_empty_object (object members)
is_unset (Some _) = false

-- the options ask for nothing but to delete; null is as if the options were absent
abbrev pub asks_nothing : Data → Bool
asks_nothing tree = is_none (member_of (codes "preconditions") tree) && is_unset (member_of (codes "dryRun") tree)

-- the options that a body is
unfoldable pub options_of : Option Data → Result (Unit {0}) Refused
options_of None = Err (asked_for (refusal.BadRequest word.Json))
options_of (Some tree) = if asks_nothing tree then Ok tt else Err (asked_for (refusal.BadRequest word.Option))

-- a deletion's body is empty, or options
unfoldable pub deletable : List ℕ → Result (Unit {0}) Refused
deletable body = if length body == 0 then Ok tt else options_of (json_object body)

-- the subject that the Status of a deletion is about
abbrev pub subject_at : Key → Subject
subject_at k = record { group = k.group; resource = k.resource; name = k.name }

-- the reply to the deletion of the tree at a place
abbrev pub deletion_text : Key → Data → List ℕ
deletion_text k tree = compact_text (deleted_status (subject_at k) (uid_in tree))

-- the stored object at the key; refused if there is none
abbrev pub existing : Plain → Key → Result Data Refused
existing s k = ok_or (lookup (is_key k) s.objects) (asked_for (refusal.NotFound sought.Object))

-- what is to be deleted: the name that it is about (a collection has none), the keys of its objects, and the reply
pub record Deletion : Type 0 where
  pub name : List ℕ
  pub keys : List Key
  pub told : List ℕ

-- the deletion of the object at a key: body, existence
unfoldable pub to_delete : Plain → Key → List ℕ → Result Deletion Refused
to_delete s k body = do
  options ← deletable body
  tree ← existing s k
  Ok (record { name = k.name; keys = k ∷ []; told = deletion_text k tree })

-- the reply to a removal by some changes
abbrev pub removed : List ℕ → List PlainChange → Result Response Refused
removed text changes = Ok (record { code = status.Ok; content = content.Json; body = text; changes = changes })

-- the removal of a deletion's objects: a namespace must hold no object, and a revision be left for each object
unfoldable pub removes : Plain → Deletion → Result Response Refused
removes s deletion = stored deletion.name (removal s deletion.keys) >>= removed deletion.told
