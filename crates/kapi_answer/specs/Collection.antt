-- The checks of a list and of the deletion of a collection (Kubernetes, 'Kubernetes API Concepts', API verbs).
use Rattle.std.specs.Prelude.{ℕ, ◌+◌, List, [], map, length, Result, Ok}
use Rattle.serde_json.specs.Data.{Data}
use Rattle.serde_json.specs.Written.{compact_text}
use Rattle.kapi_text.specs.ResultIs.{◌>>=◌}
use Rattle.kapi_answer.specs.List.{list_tree}
use Rattle.kapi_http.specs.declared.message.StatusCode.TheVariants as status
use Rattle.kapi_model.specs.declared.row.ResourceRow.{ResourceRow}
use Rattle.kapi_reply.specs.declared.refusal.Refused.{Refused}
use Rattle.kapi_answer.specs.declared.query.Filter.{Filter}
use Rattle.kapi_store.specs.Listing.{listed_trees}
use Rattle.kapi_store.specs.Plain.{Plain, revisions_left}
use Rattle.kapi_store.specs.declared.key.Key.{Key}
use Rattle.kapi_answer.specs.Create.{stored}
use Rattle.kapi_answer.specs.Delete.{Deletion, deletable}
use Rattle.kapi_answer.specs.Response.{Response, told}

-- the objects that a collection request selects, with their keys: in the namespace, or in all if it is empty
abbrev pub chosen : Plain → ResourceRow → List ℕ → Filter → List (Key × Data)
chosen s row namespace filter = listed_trees row namespace filter.selector filter.name s.objects

-- some objects as a list at a revision
abbrev pub list_of : ResourceRow → List (Key × Data) → ℕ → Data
list_of row entries revision = list_tree row (map (λ e. e.1) entries) revision

-- the reply to a list request
unfoldable pub listed : Plain → ResourceRow → List ℕ → Filter → Response
listed s row namespace filter = told status.Ok (list_of row (chosen s row namespace filter) s.revision)

-- the deletion of these objects; its reply lists the deleted objects, at the revision of the last deletion
abbrev pub deletion_of : ResourceRow → ℕ → List (Key × Data) → Deletion
deletion_of row revision entries =
    record { name = []; keys = map (λ e. e.0) entries; told = compact_text (list_of row entries (revision + length entries)) }

-- the deletion of some objects: a revision must be left for each
unfoldable pub deletes_all : Plain → ResourceRow → List (Key × Data) → Result Deletion Refused
deletes_all s row entries = do
  left ← stored [] (revisions_left s (length entries))
  Ok (deletion_of row s.revision entries)

-- the deletion that a collection request asks for, from its body on
unfoldable pub to_delete_all : Plain → ResourceRow → List ℕ → Filter → List ℕ → Result Deletion Refused
to_delete_all s row namespace filter body = do
  options ← deletable body
  deletes_all s row (chosen s row namespace filter)
