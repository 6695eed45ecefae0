-- What the segments of a path are about (Kubernetes, 'Authorization Overview', request attributes and verbs).
use Rattle.std.specs.Prelude.{ℕ, nat_eq, ◌==◌, Bool, true, false, ◌||◌, if◌then◌else◌, List, [], ◌∷◌, ◌++◌, length, slice_get, unwrap_or, codes, Option, Some, None, Result, Ok, Err}
use Rattle.std.specs.List.{ends_with, flat_map}
use Rattle.std.specs.Option.{option_and_then}
use Rattle.std.specs.Str.{bytes_eq}
use Rattle.kapi_http.specs.declared.message.Method.{Method}
use Rattle.kapi_http.specs.declared.message.Method.TheVariants.{Get, Post, Put, Patch, Delete}
use Rattle.kapi_rules.specs.declared.point.Point.TheVariants as point
use Rattle.kapi_request_info.specs.declared.attributes.Attributes.{Attributes}
use Rattle.kapi_request_info.specs.Faults.{TargetFault, bad_query}
use Rattle.kapi_request_info.specs.declared.query.QueryPair.{QueryPair}
use Rattle.kapi_request_info.specs.Query.{query_value}
use Rattle.kapi_request_info.specs.Selector.{selected_name}

-- the part at an index, empty if there is none
abbrev pub part : List (List ℕ) → ℕ → List ℕ
part parts index = unwrap_or (slice_get parts index) []

-- the subresources of a namespace itself
abbrev pub is_namespace_subresource : List ℕ → Bool
is_namespace_subresource s = bytes_eq s (codes "status") || bytes_eq s (codes "finalize")

-- the namespace and the parts from the resource on: below `namespaces/NAME` are the resources of that namespace
unfoldable pub namespace_and_parts : List (List ℕ) → List ℕ × List (List ℕ)
namespace_and_parts (first ∷ name ∷ third ∷ more) =
    if bytes_eq first (codes "namespaces")
    then (if is_namespace_subresource third then (name, first ∷ name ∷ third ∷ more) else (name, third ∷ more))
    else ([], first ∷ name ∷ third ∷ more)
namespace_and_parts (first ∷ name ∷ []) =
    if bytes_eq first (codes "namespaces") then (name, first ∷ name ∷ []) else ([], first ∷ name ∷ [])
namespace_and_parts (first ∷ []) = ([], first ∷ [])
namespace_and_parts [] = ([], [])

-- whether a Boolean of a query is true
unfoldable pub watched_by : List ℕ → Result Bool TargetFault
watched_by value =
    if bytes_eq value (codes "true") || bytes_eq value (codes "1") then Ok true
    else if bytes_eq value (codes "false") || bytes_eq value (codes "0") then Ok false
    else Err bad_query

-- whether a collection is to be watched (Kubernetes, 'API Concepts', efficient detection of changes)
abbrev pub watched_where : Option (List ℕ) → Result Bool TargetFault
watched_where (Some value) = watched_by value
watched_where None = Ok false

-- whether the query asks to watch
abbrev pub watched : List QueryPair → Result Bool TargetFault
watched query = watched_where (query_value query (codes "watch"))

-- the name that the field selector of a query asks for, empty if there is none
abbrev pub selector_name : List QueryPair → List ℕ
selector_name query = unwrap_or (option_and_then selected_name (query_value query (codes "fieldSelector"))) []

-- a collection is listed or watched, narrowed to the name that a field selector asks for
abbrev pub read_verb_and_name : List QueryPair → Result Bool TargetFault → Result (List ℕ × List ℕ) TargetFault
read_verb_and_name query (Ok w) = Ok ((if w then codes "watch" else codes "list"), selector_name query)
read_verb_and_name query (Err e) = Err e

-- the verb of a read of a collection, and the name that a field selector specifies
unfoldable pub collection_read : List QueryPair → Result (List ℕ × List ℕ) TargetFault
collection_read query = read_verb_and_name query (watched query)

-- the verb and the name of a request about a resource of this name, which is empty for a collection
unfoldable pub verb_and_name : Method → List ℕ → List QueryPair → Result (List ℕ × List ℕ) TargetFault
verb_and_name Get name query = if length name == 0 then collection_read query else Ok (codes "get", name)
verb_and_name Post name query = Ok (codes "create", name)
verb_and_name Put name query = Ok (codes "update", name)
verb_and_name Patch name query = Ok (codes "patch", name)
verb_and_name Delete name query = if length name == 0 then Ok (codes "deletecollection", name) else Ok (codes "delete", name)

-- the attributes of a request about the resource that the parts name
abbrev pub named_by : List ℕ → List ℕ → List ℕ × List (List ℕ) → List QueryPair → Result (List ℕ × List ℕ) TargetFault → Result Attributes TargetFault
named_by group version p query (Ok v) = Ok (record {
  namespace = p.0;
  point = point.Resource (record {
    verb = v.0;
    group = group;
    resource = part p.1 0;
    subresource = part p.1 2;
    name = v.1;
  });
  version = version;
  parts = length p.1;
  query = query;
})
named_by group version p query (Err e) = Err e

-- the attributes of a request about a resource of a group and version
abbrev pub resource_attributes : Method → List ℕ → List ℕ → List (List ℕ) → List QueryPair → Result Attributes TargetFault
resource_attributes method group version rest query =
    let p = namespace_and_parts rest in
    named_by group version p query (verb_and_name method (part p.1 1) query)

-- the verb of a request about no resource: its method in lower case
unfoldable pub url_verb : Method → List ℕ
url_verb Get = codes "get"
url_verb Post = codes "post"
url_verb Put = codes "put"
url_verb Patch = codes "patch"
url_verb Delete = codes "delete"

-- the last byte is a slash
abbrev pub ends_in_slash : List ℕ → Bool
ends_in_slash path = ends_with nat_eq path (codes "/")

-- a path with its segments decoded; it keeps its last slash
abbrev pub url_path : List ℕ → List (List ℕ) → List ℕ
url_path path segments =
    let slashed = flat_map (λ s. 47 ∷ s) segments in
    if ends_in_slash path then slashed ++ codes "/" else slashed

-- the attributes of a request about no resource
abbrev pub url_attributes : Method → List ℕ → List (List ℕ) → List QueryPair → Attributes
url_attributes method path segments query = record {
  namespace = [];
  point = point.Url (record { verb = url_verb method; path = url_path path segments });
  version = [];
  parts = 0;
  query = query;
}

-- a path is about a resource if it is /api/VERSION/.. or /apis/GROUP/VERSION/..
unfoldable pub attributes_by : Method → List ℕ → List (List ℕ) → List QueryPair → Result Attributes TargetFault
attributes_by method path (first ∷ second ∷ third ∷ fourth ∷ more) query =
    if bytes_eq first (codes "api") then resource_attributes method [] second (third ∷ fourth ∷ more) query
    else if bytes_eq first (codes "apis") then resource_attributes method second third (fourth ∷ more) query
    else Ok (url_attributes method path (first ∷ second ∷ third ∷ fourth ∷ more) query)
attributes_by method path (first ∷ second ∷ third ∷ []) query =
    if bytes_eq first (codes "api") then resource_attributes method [] second (third ∷ []) query
    else Ok (url_attributes method path (first ∷ second ∷ third ∷ []) query)
attributes_by method path (first ∷ second ∷ []) query = Ok (url_attributes method path (first ∷ second ∷ []) query)
attributes_by method path (first ∷ []) query = Ok (url_attributes method path (first ∷ []) query)
attributes_by method path [] query = Ok (url_attributes method path [] query)
