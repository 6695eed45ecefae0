-- The resource, the place and the action of a request (Kubernetes, 'Kubernetes API Concepts', resource URIs).
use Rattle.std.specs.Prelude.{ℕ, ◌==◌, nat_le, Bool, not, ◌&&◌, ◌||◌, if◌then◌else◌, List, length, find, codes, Option, Some, None, Result, Ok, Err, ok_or}
use Rattle.std.specs.Bool.{beq}
use Rattle.std.specs.Str.{bytes_eq}
use Rattle.kapi_http.specs.declared.message.Method.{Method}
use Rattle.kapi_http.specs.declared.message.Method.TheVariants.{Get, Post, Put, Patch, Delete}
use Rattle.kapi_model.specs.declared.row.ResourceRow.{ResourceRow}
use Rattle.kapi_rules.specs.declared.point.Point.{Point}
use Rattle.kapi_rules.specs.declared.point.Point.TheVariants as point
use Rattle.kapi_rules.specs.declared.point.ResourcePoint.{ResourcePoint}
use Rattle.kapi_request_info.specs.declared.attributes.Attributes.{Attributes}
use Rattle.kapi_reply.specs.declared.refusal.Refused.{Refused}
use Rattle.kapi_reply.specs.declared.refusal.Refusal.TheVariants as refusal
use Rattle.kapi_reply.specs.declared.refusal.Place.{Place}
use Rattle.kapi_reply.specs.declared.refusal.Place.TheVariants as place
use Rattle.kapi_answer.specs.declared.route.Action.{Action}
use Rattle.kapi_answer.specs.declared.route.Action.TheVariants as action
use Rattle.kapi_answer.specs.declared.route.ObjectPart.TheVariants as part
use Rattle.kapi_store.specs.Rows.{is_of}
use Rattle.kapi_text.specs.ResultIs.{◌>>=◌}
use Rattle.kapi_reply.specs.Refusals.{asked_for}

-- a resource request that is served: its resource type, its point and its action
pub record ResourceRouted : Type 0 where
  pub row : ResourceRow
  pub point : ResourcePoint
  pub action : Action

-- a request that is served: a health request, or a resource request
pub data Routed : Type 0 where
  health : Routed
  resource : ResourceRouted → Routed

-- the resource type is that of the request's group, version and resource
abbrev pub is_row_of : List ℕ → ResourcePoint → ResourceRow → Bool
is_row_of version p row = is_of p.group version p.resource row

-- the resource type is that of the namespaces themselves
abbrev pub is_of_namespaces : ResourceRow → Bool
is_of_namespaces row = length row.group == 0 && bytes_eq row.plural (codes "namespaces")

-- the path of a namespace names it twice: as the object and as the namespace
abbrev pub is_own_namespace : ResourceRow → Attributes → ResourcePoint → Bool
is_own_namespace row a p = is_of_namespaces row && (nat_le 2 a.parts && bytes_eq p.name a.namespace)

-- if an object is named, the path has a namespace exactly if the resource type has namespaces
abbrev pub has_right_namespace : ResourceRow → Attributes → ResourcePoint → Bool
has_right_namespace row a p =
    if row.namespaced then not (length a.namespace == 0)
    else length a.namespace == 0 || is_own_namespace row a p

-- the place of a path that names no object
unfoldable pub collection_of : ResourceRow → Attributes → Option Place
collection_of row a =
    if row.namespaced then Some (if length a.namespace == 0 then place.AllNamespaces else place.Collection)
    else (if length a.namespace == 0 then Some (if is_of_namespaces row then place.Namespaces else place.Collection) else None)

-- the place of a path's third part: the status is the only subresource
abbrev pub subresource_of : ResourceRow → ResourcePoint → Option Place
subresource_of row p = if row.has_status && bytes_eq p.subresource (codes "status") then Some place.Status else None

-- the place of a path: one part is a collection, two are an object, three are its subresource
unfoldable pub place_of : ResourceRow → Attributes → ResourcePoint → Option Place
place_of row a p =
    if a.parts == 1 then collection_of row a
    else (if not (has_right_namespace row a p) then None
    else (if a.parts == 2 then Some place.Object
    else (if a.parts == 3 then subresource_of row p else None)))

-- the resource type is one of reviews (Kubernetes API, authorization.k8s.io/v1)
abbrev pub is_review_group : ResourceRow → Bool
is_review_group row = bytes_eq row.group (codes "authorization.k8s.io")

-- where reviews are made: in a namespace exactly if the resource type has namespaces; a review has no name
abbrev pub reviews_place : ResourceRow → Attributes → Option Place
reviews_place row a = if a.parts == 1 && beq row.namespaced (not (length a.namespace == 0)) then Some place.Reviews else None

-- the place of a path for a resource type
unfoldable pub place_on : ResourceRow → Attributes → ResourcePoint → Option Place
place_on row a p = if is_review_group row then reviews_place row a else place_of row a p

-- a collection is read at once or watched, as its verb says
abbrev pub read_action : List ℕ → Action
read_action verb = if bytes_eq verb (codes "watch") then action.Watch else action.List

-- what a method does at a place that serves it
unfoldable pub action_at : Place → List ℕ → Method → Result Action Refused
action_at place.Collection verb Get = Ok (read_action verb)
action_at place.Collection verb Post = Ok action.Create
action_at place.Collection verb Delete = Ok action.DeleteCollection
action_at place.Namespaces verb Get = Ok (read_action verb)
action_at place.Namespaces verb Post = Ok action.Create
action_at place.Reviews verb Post = Ok action.Create
action_at place.AllNamespaces verb Get = Ok (read_action verb)
action_at place.Object verb Get = Ok action.Get
action_at place.Object verb Put = Ok (action.Update part.Object)
action_at place.Object verb Patch = Ok (action.Patch part.Object)
action_at place.Object verb Delete = Ok action.Delete
action_at place.Status verb Get = Ok action.Get
action_at place.Status verb Put = Ok (action.Update part.Status)
action_at place.Status verb Patch = Ok (action.Patch part.Status)
action_at place _ _ = Err (asked_for (refusal.MethodNotAllowed place))

-- the route of a request for a resource type
unfoldable pub on_row : ResourceRow → Method → Attributes → ResourcePoint → Result Routed Refused
on_row row method a p = do
  place ← ok_or (place_on row a p) (asked_for refusal.NoSuchResource)
  action ← action_at place p.verb method
  Ok (resource (record { row = row; point = p; action = action }))

-- the route for the resource type that was found, if any
abbrev pub on_found : Option ResourceRow → Method → Attributes → ResourcePoint → Result Routed Refused
on_found None method a p = Err (asked_for refusal.NoSuchResource)
on_found (Some row) method a p = on_row row method a p

-- the paths of health requests (Kubernetes, 'Kubernetes API health endpoints')
abbrev pub is_health : List ℕ → Bool
is_health path = bytes_eq path (codes "/healthz") || (bytes_eq path (codes "/livez") || bytes_eq path (codes "/readyz"))

-- health paths are read with GET only
unfoldable pub read_health : Method → Result Routed Refused
read_health Get = Ok health
read_health _ = Err (asked_for (refusal.MethodNotAllowed place.Health))

-- the route of a path of no resource
abbrev pub at_path : Method → List ℕ → Result Routed Refused
at_path method path = if is_health path then read_health method else Err (asked_for refusal.NoSuchResource)

-- the route of a request's point
abbrev pub at_point : List ResourceRow → Method → Attributes → Point → Result Routed Refused
at_point table method a (point.Url u) = at_path method u.path
at_point table method a (point.Resource p) = on_found (find (is_row_of a.version p) table) method a p

-- the route of a request
unfoldable pub routed : List ResourceRow → Method → Attributes → Result Routed Refused
routed table method a = at_point table method a a.point
