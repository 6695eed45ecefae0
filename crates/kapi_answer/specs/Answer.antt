-- The answer to a request: what is sent, and the changes that are made.
use Rattle.std.specs.Prelude.{ℕ, Bool, List, [], Option, Some, None, Result, Ok, Err}
use Rattle.std.specs.Map.{lookup}
use Rattle.serde_json.specs.Data.{Data}
use Rattle.kapi_text.specs.ResultIs.{◌>>=◌}
use Rattle.kapi_answer.specs.Escalation.{escalated}
use Rattle.kapi_http.specs.declared.message.HttpFault.{HttpFault}
use Rattle.kapi_http.specs.declared.message.HttpRequest.{HttpRequest}
use Rattle.kapi_model.specs.declared.row.ResourceRow.{ResourceRow}
use Rattle.kapi_policy.specs.Objects.{PolicyObjects}
use Rattle.kapi_model.specs.declared.identity.Identity.{Identity}
use Rattle.kapi_request_info.specs.Attributes.{info}
use Rattle.kapi_request_info.specs.Faults.{TargetFault, bad_path, bad_escape, bad_query}
use Rattle.kapi_request_info.specs.declared.attributes.Attributes.{Attributes}
use Rattle.kapi_reply.specs.Refusals.{RefusedRequest}
use Rattle.kapi_reply.specs.Replies.{fault_reply, content_reply, refusal_reply, target_reply, watch_reply}
use Rattle.kapi_reply.specs.declared.refusal.BadRequestReason.{BadRequestReason}
use Rattle.kapi_reply.specs.declared.refusal.BadRequestReason.TheVariants as word
use Rattle.kapi_reply.specs.declared.refusal.Refused.{Refused}
use Rattle.kapi_reply.specs.declared.reply.WrittenReply.{WrittenReply}
use Rattle.kapi_reviews.specs.declared.kind.ReviewKind.{ReviewKind}
use Rattle.kapi_answer.specs.Headers.{media_typed}
use Rattle.kapi_answer.specs.Query.{queried}
use Rattle.kapi_answer.specs.Route.{ResourceRouted, Routed, health, resource, routed}
use Rattle.kapi_answer.specs.declared.route.Action.{Action}
use Rattle.kapi_answer.specs.declared.route.Action.TheVariants as action
use Rattle.kapi_store.specs.Plain.{Plain, PlainChange}
use Rattle.kapi_answer.specs.declared.query.Filter.{Filter}
use Rattle.kapi_store.specs.Keys.{is_key}
use Rattle.kapi_store.specs.declared.key.Key.{Key}
use Rattle.kapi_answer.specs.Authorization.{authorized}
use Rattle.kapi_answer.specs.Collection.{listed, to_delete_all}
use Rattle.kapi_answer.specs.Create.{creates, key_at, namespace_on, to_create}
use Rattle.kapi_answer.specs.Delete.{Deletion, removes, to_delete}
use Rattle.kapi_answer.specs.Get.{found}
use Rattle.kapi_answer.specs.Impersonation.{made_as}
use Rattle.kapi_answer.specs.Response.{Response, well}
use Rattle.kapi_answer.specs.Review.{review_kind, to_review}
use Rattle.kapi_watch.specs.Watches.{PlainWatch}
use Rattle.kapi_answer.specs.Watch.{PlainWatching, since_served, watch_of}
use Rattle.kapi_answer.specs.Update.{replaces, to_patch, to_update}

-- what a request that passes all checks but the store's leads to: an answer without a change, the start of a watch, a
-- new object at its place, an object in place of the stored one, or the deletion of objects
pub data Plan : Type 0 where
  tell : Response → Plan
  watch : PlainWatch → Plan
  create : Key × Data → Plan
  replace : Key × Data → Plan
  delete : Deletion → Plan

-- the plan of an answer without a change
abbrev pub tells : Response → Result Plan Refused
tells response = Ok (tell response)

-- the roles and bindings that decide a resource request, its identity, its resource type, the namespace and the name of
-- its path, its filter and body
pub record Task : Type 0 where
  pub objects : PolicyObjects
  pub identity : Identity
  pub row : ResourceRow
  pub namespace : List ℕ
  pub name : List ℕ
  pub filter : Filter
  pub body : List ℕ

-- the task of a resource request on its route, with the filter of its query
abbrev pub task : PolicyObjects → Identity → HttpRequest → Attributes → ResourceRouted → Filter → Task
task objects identity request a r filter = record {
  objects = objects;
  identity = identity;
  row = r.row;
  namespace = namespace_on r.row a.namespace;
  name = r.point.name;
  filter = filter;
  body = request.body;
}

-- the place that a task's path names
abbrev pub place_in : Task → Key
place_in t = key_at t.row t.namespace t.name

-- the identity may write the object, by what the write would grant
abbrev pub escalation_checked : Plain → Task → Key × Data → Result (Unit {0}) Refused
escalation_checked s t new = escalated t.objects t.identity t.name new.0 (lookup (is_key new.0) s.objects) new.1

-- plans the creation of an object that passed its checks, if the identity may make the write
unfoldable pub to_be_created : Plain → Task → Key × Data → Result Plan Refused
to_be_created s t new = do
  u ← escalation_checked s t new
  Ok (create new)

-- plans the replacement of an object that passed its checks, if the identity may make the write
unfoldable pub to_be_replaced : Plain → Task → Key × Data → Result Plan Refused
to_be_replaced s t new = do
  u ← escalation_checked s t new
  Ok (replace new)

-- plans a deletion that passed its checks
abbrev pub deletes : Deletion → Result Plan Refused
deletes deletion = Ok (delete deletion)

-- plans the answer to a review, or the creation of any other object
unfoldable pub planned_creation : Option ReviewKind → Plain → Task → Result Plan Refused
planned_creation (Some kind) s t = to_review t.objects t.identity kind t.row t.namespace t.body >>= tells
planned_creation None s t = to_create s t.row t.namespace t.body >>= to_be_created s t

-- the plan of a resource request by its action
unfoldable pub planned_on : Action → Plain → Task → Result Plan Refused
planned_on action.Get s t = found s (place_in t) >>= tells
planned_on action.List s t = tells (listed s t.row t.namespace t.filter)
planned_on action.Watch s t = Ok (watch (watch_of s t.row t.namespace t.filter))
planned_on action.Create s t = planned_creation (review_kind t.row) s t
planned_on (action.Update of) s t = to_update s t.row of (place_in t) t.body >>= to_be_replaced s t
planned_on (action.Patch of) s t = to_patch s t.row of (place_in t) t.body >>= to_be_replaced s t
planned_on action.Delete s t = to_delete s (place_in t) t.body >>= deletes
planned_on action.DeleteCollection s t = to_delete_all s t.row t.namespace t.filter t.body >>= deletes

-- the checks of a resource request, from its query on
unfoldable pub planned_for : PolicyObjects → Plain → Identity → HttpRequest → Attributes → ResourceRouted → Result Plan Refused
planned_for objects s identity request a r = do
  filter ← queried r.action s.revision a.query
  k ← since_served s filter.since
  w ← media_typed request.method request.headers
  planned_on r.action s (task objects identity request a r filter)

-- the checks of a health request
unfoldable pub told_well : HttpRequest → Result Response Refused
told_well request = do
  w ← media_typed request.method request.headers
  Ok well

-- the checks of a request on its route
abbrev pub planned_at : PolicyObjects → Plain → Identity → HttpRequest → Attributes → Routed → Result Plan Refused
planned_at objects s identity request a health = told_well request >>= tells
planned_at objects s identity request a (resource r) = planned_for objects s identity request a r

-- all checks of a request but the store's, by the current roles and bindings, in their order
unfoldable pub planned : PolicyObjects → Plain → Identity → HttpRequest → Attributes → Result Plan Refused
planned objects s identity request a = do
  v ← authorized objects identity a
  r ← routed s.table request.method a
  planned_at objects s identity request a r

-- what a request that passed every check gets
pub data Passed : Type 0 where
  told : Response → Passed
  watching : PlainWatch → Passed

-- the result of a request that passed every check with a response
abbrev pub passes : Response → Result Passed Refused
passes response = Ok (told response)

-- what becomes of a plan, if the store makes the write
abbrev pub carried_out : Plain → Plan → Result Passed Refused
carried_out s (tell response) = passes response
carried_out s (watch w) = Ok (watching w)
carried_out s (create new) = creates s new >>= passes
carried_out s (replace new) = replaces s new >>= passes
carried_out s (delete deletion) = removes s deletion >>= passes

-- all checks of a request, the store's last
unfoldable pub checked : PolicyObjects → Plain → Identity → HttpRequest → Attributes → Result Passed Refused
checked objects s identity request a = planned objects s identity request a >>= carried_out s

-- what is sent, the changes made, and the started watch, whose head is sent
pub record Answered : Type 0 where
  pub reply : WrittenReply
  pub changes : List PlainChange
  pub watch : Option PlainWatching

-- an answer of a reply alone
abbrev pub replied : WrittenReply → Answered
replied reply = record { reply = reply; changes = []; watch = None }

-- the answer to a request that passed every check
unfoldable pub answer_passed : Identity → Attributes → Bool → Passed → Answered
answer_passed identity a close (told response) =
    record { reply = content_reply response.code response.content close response.body; changes = response.changes; watch = None }
answer_passed identity a close (watching w) = record {
  reply = watch_reply close;
  changes = [];
  watch = Some (record { watch = w; close = close; identity = identity; attributes = a });
}

-- the `BadRequestReason` of a fault of a target
abbrev pub target_word : TargetFault → BadRequestReason
target_word bad_path = word.Target
target_word bad_escape = word.Escape
target_word bad_query = word.Query

-- a request that the identity makes
abbrev pub asked_by : Identity → HttpRequest → Attributes → RefusedRequest
asked_by identity request a = record { user = identity.user; method = request.method; attributes = a }

-- the answer to a request of the identity by the result of its checks
unfoldable pub answer_by : Identity → HttpRequest → Attributes → Result Passed Refused → Answered
answer_by identity request a (Ok passed) = answer_passed identity a request.close passed
answer_by identity request a (Err refused) = replied (refusal_reply (asked_by identity request a) request.close refused)

-- the answer to a request, checked for its effective identity; a refused impersonation is answered to the caller
unfoldable pub answer_as : PolicyObjects → Plain → Identity → HttpRequest → Attributes → Result Identity Refused → Answered
answer_as objects s identity request a (Ok other) = answer_by other request a (checked objects s other request a)
answer_as objects s identity request a (Err refused) = replied (refusal_reply (asked_by identity request a) request.close refused)

-- the answer to a request whose target specifies those attributes, or has a fault
unfoldable pub answer_asked : PolicyObjects → Plain → Identity → HttpRequest → Result Attributes TargetFault → Answered
answer_asked objects s identity request (Ok a) = answer_as objects s identity request a (made_as objects identity request)
answer_asked objects s identity request (Err fault) = replied (target_reply (target_word fault) request.close)

-- the answer to what was cut from a connection's bytes, by the current roles and bindings
unfoldable pub answer : PolicyObjects → Plain → Identity → Result HttpRequest HttpFault → Answered
answer objects s identity (Ok request) = answer_asked objects s identity request (info request.method request.target)
answer objects s identity (Err fault) = replied (fault_reply fault)
