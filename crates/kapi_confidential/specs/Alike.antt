-- What an identity may read, and which states it cannot tell apart (Kubernetes, 'Using RBAC Authorization' and
-- 'Kubernetes API Concepts', API verbs).
use Rattle.std.specs.Prelude.{◌≡◌, ℕ, Bool, true, List, Option, Some, option_map, Result, Ok, Err}
use Rattle.std.specs.List.{filter}
use Rattle.std.specs.Map.{lookup}
use Rattle.serde_json.specs.Data.{Data}
use Rattle.kapi_model.specs.declared.identity.Identity.{Identity}
use Rattle.kapi_model.specs.declared.row.ResourceRow.{ResourceRow}
use Rattle.kapi_rules.specs.declared.point.Point.{Point}
use Rattle.kapi_policy.specs.Decided.{decided, held}
use Rattle.kapi_policy.specs.Objects.{PolicyObjects}
use Rattle.kapi_http.specs.declared.message.HttpFault.{HttpFault}
use Rattle.kapi_http.specs.declared.message.HttpRequest.{HttpRequest}
use Rattle.kapi_http.specs.declared.message.Method.{Method}
use Rattle.kapi_request_info.specs.Attributes.{info}
use Rattle.kapi_request_info.specs.declared.attributes.Attributes.{Attributes}
use Rattle.kapi_store.specs.Keys.{is_key}
use Rattle.kapi_store.specs.Listing.{is_within}
use Rattle.kapi_store.specs.Plain.{Plain, PlainChange}
use Rattle.kapi_store.specs.declared.key.Key.{Key}
use Rattle.kapi_watch.specs.Watches.{pumped}
use Rattle.kapi_watch.specs.declared.scope.WatchScope.{WatchScope}
use Rattle.kapi_answer.specs.Answer.{answer}
use Rattle.kapi_answer.specs.Authorization.{is_authorized}
use Rattle.kapi_answer.specs.Create.{key_at, namespace_on}
use Rattle.kapi_answer.specs.Impersonation.{made_as}
use Rattle.kapi_reviews.specs.declared.kind.ReviewKind.{ReviewKind}
use Rattle.kapi_reviews.specs.declared.kind.ReviewKind.TheVariants as kind
use Rattle.kapi_answer.specs.Query.{queried}
use Rattle.kapi_answer.specs.Review.{review_kind}
use Rattle.kapi_answer.specs.Route.{ResourceRouted, resource, routed}
use Rattle.kapi_answer.specs.Watch.{PlainWatching, event_reply_of, rechecked}
use Rattle.kapi_answer.specs.declared.query.Filter.{Filter}
use Rattle.kapi_answer.specs.declared.watch.EventReply.{EventReply}
use Rattle.kapi_answer.specs.declared.route.Action.{Action}
use Rattle.kapi_answer.specs.declared.route.Action.TheVariants as action

-- ---- what only reads

-- a review of the caller's own rights
abbrev pub IsSelfReview : Option ReviewKind → Type 0
IsSelfReview (Some kind.SelfSubjectAccessReview) = Unit {0}
IsSelfReview (Some kind.SelfSubjectRulesReview) = Unit {0}
IsSelfReview other = ⊥

-- the action on a resource type lists its objects, now or as they change
abbrev pub IsListing : Action → Type 0
IsListing action.List = Unit {0}
IsListing action.Watch = Unit {0}
IsListing act = ⊥

-- the action on a resource type only reads
abbrev pub IsRead : ResourceRow → Action → Type 0
IsRead row action.Get = Unit {0}
IsRead row action.List = Unit {0}
IsRead row action.Watch = Unit {0}
IsRead row action.Create = IsSelfReview (review_kind row)
IsRead row act = ⊥

-- a request for a target that authorization passes, with its route
pub record Passes (objects : PolicyObjects) (table : List ResourceRow) (who : Identity) (method : Method) (a : Attributes) (r : ResourceRouted) : Type 0 where
  pub target : List ℕ
  pub asks : info method target ≡ Ok a
  pub allowed : is_authorized objects who a ≡ true
  pub routes : routed table method a ≡ Ok (resource r)

-- if the request passes authorization, its action only reads
abbrev pub ReadsOnly : PolicyObjects → Plain → Identity → Result HttpRequest HttpFault → Type 0
ReadsOnly objects s caller (Err fault) = Unit {0}
ReadsOnly objects s caller (Ok request) =
    (a : Attributes) (who : Identity) (r : ResourceRouted) → info request.method request.target ≡ Ok a → made_as objects caller request ≡ Ok who
    → Passes objects s.table who request.method a r → IsRead r.row r.action

-- ---- what is seen

-- the identity is allowed the same
abbrev pub DecidesAlike : Identity → PolicyObjects → PolicyObjects → Type 0
DecidesAlike who objects other = (namespace : List ℕ) (p : Point) → decided objects who namespace p ≡ decided other who namespace p

-- the objects of a resource type in a namespace, or in all, with a name or any
abbrev pub within : ResourceRow → List ℕ → List ℕ → List (Key × Data) → List (Key × Data)
within row namespace name entries = filter (λ e. is_within row namespace name e.0) entries

-- the identity cannot tell two states apart: it is allowed the same, by the same bindings, and holds the same rules; the resource
-- types and the revisions are the same; each object that some request of the identity may get is in both, or in neither; and
-- what some list or watch of it may range over is the same
pub record SeesAlike (who : Identity) (objects other : PolicyObjects) (s t : Plain) : Type 0 where
  pub decides : DecidesAlike who objects other
  pub holds : (namespace : List ℕ) → held objects who namespace ≡ held other who namespace
  pub table : t.table ≡ s.table
  pub revision : t.revision ≡ s.revision
  pub first : t.first ≡ s.first
  pub object : (method : Method) (a : Attributes) (r : ResourceRouted) → Passes objects s.table who method a r → r.action ≡ action.Get
      → lookup (is_key (key_at r.row (namespace_on r.row a.namespace) r.point.name)) t.objects ≡ lookup (is_key (key_at r.row (namespace_on r.row a.namespace) r.point.name)) s.objects
  pub list : (method : Method) (a : Attributes) (r : ResourceRouted) (filter : Filter) → Passes objects s.table who method a r → IsListing r.action
      → queried r.action s.revision a.query ≡ Ok filter
      → within r.row (namespace_on r.row a.namespace) filter.name t.objects ≡ within r.row (namespace_on r.row a.namespace) filter.name s.objects

-- the item is answered alike
abbrev pub AnswersAlike : Identity → Result HttpRequest HttpFault → PolicyObjects → PolicyObjects → Plain → Plain → Type 0
AnswersAlike caller item objects other s t = answer objects s caller item ≡ answer other t caller item

-- ---- watches

-- the changes of the objects that a watch ranges over
abbrev pub changes_for : WatchScope → List PlainChange → List PlainChange
changes_for scope history = filter (λ c. is_within scope.row scope.namespace scope.name c.key) history

-- a watch cannot tell two states and their histories apart: its identity is allowed the same, the revisions are the same, and so
-- are the changes of the objects that it ranges over
pub record WatchesAlike (w : PlainWatching) (objects other : PolicyObjects) (s t : Plain) (history changes : List PlainChange) : Type 0 where
  pub decides : DecidesAlike w.identity objects other
  pub revision : t.revision ≡ s.revision
  pub first : t.first ≡ s.first
  pub made : changes_for w.watch.scope changes ≡ changes_for w.watch.scope history

-- what the next event of a watch sends, if one is due, whether rights are rechecked or not
abbrev pub next_event : Bool → PolicyObjects → Plain → List PlainChange → PlainWatching → Option EventReply
next_event rechecks objects s history w = option_map (event_reply_of s w) (rechecked rechecks objects w (pumped history s w.watch))
