-- What a request for a collection ranges over, and that it deletes no namespaces.
use Rattle.std.proofs.Common.{◌≡◌, ℕ, ◌==◌, Bool, true, false, not, ◌&&◌, if◌then◌else◌, List, [], ◌∷◌, Option, Some, None, Result, Ok, Err, map, length, ok_or, refl, sym, ap, ◌∙◌, codes, IfOk}
use Rattle.std.proofs.lemmas.Bool.{and_parts}
use Rattle.std.proofs.lemmas.Slice.Eq.{bytes_eq-Decides}
use Rattle.std.specs.Bool.{beq}
use Rattle.std.specs.List.{AllByRecursion, find}
use Rattle.std.specs.Map.{lookup}
use Rattle.std.specs.Ordering.{is_eq}
use Rattle.std.specs.Str.{bytes_eq}
use Rattle.std.specs.declared.cmp.Ordering.{Ordering}
use Rattle.std.specs.declared.cmp.Ordering.TheVariants.{Less, Equal, Greater}
use Rattle.serde_json.specs.Data.{Data}
use Rattle.kapi_object.specs.Tree.{in_metadata}
use Rattle.kapi_http.specs.declared.message.Method.{Method}
use Rattle.kapi_http.specs.declared.message.Method.TheVariants.{Get, Post, Put, Patch, Delete}
use Rattle.kapi_model.specs.Selector.{matches}
use Rattle.kapi_model.specs.declared.row.ResourceRow.{ResourceRow}
use Rattle.kapi_model.specs.declared.selector.Selector.{Selector}
use Rattle.kapi_rules.specs.declared.point.Point.{Point}
use Rattle.kapi_rules.specs.declared.point.Point.TheVariants as point
use Rattle.kapi_rules.specs.declared.point.ResourcePoint.{ResourcePoint}
use Rattle.kapi_reply.specs.Refusals.{asked_for}
use Rattle.kapi_reply.specs.declared.refusal.Place.{Place}
use Rattle.kapi_reply.specs.declared.refusal.Place.TheVariants as place
use Rattle.kapi_reply.specs.declared.refusal.Refusal.TheVariants as refusal
use Rattle.kapi_reply.specs.declared.refusal.Refused.{Refused}
use Rattle.kapi_request_info.specs.declared.attributes.Attributes.{Attributes}
use Rattle.kapi_store.proofs.Keys.{key_same}
use Rattle.kapi_store.specs.Keys.{is_key, key_cmp}
use Rattle.kapi_store.specs.Listing.{is_asked, is_listed, is_within, listed_trees}
use Rattle.kapi_store.specs.Plain.{is_namespace}
use Rattle.kapi_store.specs.declared.key.Key.{Key}
use Rattle.kapi_answer.specs.Create.{namespace_on}
use Rattle.kapi_answer.specs.Route.{ResourceRouted, Routed, action_at, at_point, collection_of, has_right_namespace, health, is_health, is_of_namespaces, is_review_group, is_row_of, on_found, on_row, place_of, place_on, read_action, read_health, resource, reviews_place, routed, subresource_of}
use Rattle.kapi_answer.specs.declared.route.Action.{Action}
use Rattle.kapi_answer.specs.declared.route.Action.TheVariants as action
use Rattle.kapi_confidential.proofs.Results.{bind_holds, returned}
use Rattle.kapi_confidential.specs.Alike.{within}

-- ---- the objects of a collection

key_is : (k l : Key) → is_key k l ≡ true → k ≡ l
key_is k l is = key_same k l (equal (key_cmp k l) is)
  where
    equal : (o : Ordering) → is_eq o ≡ true → o ≡ Equal
    equal Less never = absurd (cc never)
    equal Equal is = refl
    equal Greater never = absurd (cc never)

module _ (row : ResourceRow) (namespace name : List ℕ) where
  pub lookup_within : (k : Key) → is_within row namespace name k ≡ true → (xs : List (Key × Data)) → lookup (is_key k) (within row namespace name xs) ≡ lookup (is_key k) xs
  lookup_within k at [] = refl
  lookup_within k at (e ∷ xs) = by_test (is_within row namespace name e.0) (is_key k e.0) refl refl (lookup_within k at xs)
    where
      found : Bool → Option Data → Option Data
      found here rest = if here then Some e.1 else rest

      by_test : (among here : Bool) → is_within row namespace name e.0 ≡ among → is_key k e.0 ≡ here → lookup (is_key k) (within row namespace name xs) ≡ lookup (is_key k) xs
          → lookup (is_key k) (if among then e ∷ within row namespace name xs else within row namespace name xs) ≡ found (is_key k e.0) (lookup (is_key k) xs)
      by_test true here is so rest = ap (found (is_key k e.0)) rest
      by_test false true is so rest = absurd (let never : true ≡ false = sym at ∙ ap (is_within row namespace name) (key_is k e.0 so) ∙ is in cc never)
      by_test false false is so rest = rest ∙ ap (λ here. found here (lookup (is_key k) xs)) (sym so)

  pub keys_within : (P : Key → Type 0) → ((k : Key) → is_within row namespace name k ≡ true → P k) → (selector : Selector) (xs : List (Key × Data))
      → AllByRecursion P (map (λ e. e.0) (listed_trees row namespace selector name xs))
  unfolding is_listed
  keys_within P each selector [] = tt
  keys_within P each selector (e ∷ xs) =
      by_test (is_within row namespace name e.0) (matches selector (in_metadata (codes "labels") e.1)) refl (keys_within P each selector xs)
    where
      by_test : (among fits : Bool) → is_within row namespace name e.0 ≡ among → AllByRecursion P (map (λ e. e.0) (listed_trees row namespace selector name xs))
          → AllByRecursion P (map (λ e. e.0) (if among && fits then e ∷ listed_trees row namespace selector name xs else listed_trees row namespace selector name xs))
      by_test true true is rest = (each e.0 is, rest)
      by_test true false is rest = rest
      by_test false fits is rest = rest

-- ---- routes

-- what holds of a health request and of each request for a resource type of the table holds of each route
pub route_holds : (table : List ResourceRow) (method : Method) (a : Attributes) (P : Routed → Type 0) → P health
    → ((p : ResourcePoint) (row : ResourceRow) → a.point ≡ point.Resource p → find (is_row_of a.version p) table ≡ Some row → IfOk (on_row row method a p) P) → IfOk (routed table method a) P
unfolding routed read_health
route_holds table method a P well holds = by_point a.point refl
  where
    by_path : (b : Bool) (m : Method) → IfOk (if b then read_health m else Err (asked_for refusal.NoSuchResource)) P
    by_path true Get = well
    by_path true m = tt
    by_path false m = tt

    by_row : (p : ResourcePoint) → a.point ≡ point.Resource p → (o : Option ResourceRow) → find (is_row_of a.version p) table ≡ o → IfOk (on_found o method a p) P
    by_row p is None found = tt
    by_row p is (Some row) found = holds p row is found

    by_point : (p : Point) → a.point ≡ p → IfOk (at_point table method a p) P
    by_point (point.Url u) is = by_path (is_health u.path) method
    by_point (point.Resource p) is = by_row p is (find (is_row_of a.version p) table) refl

-- ---- namespaces

-- the objects of the resource type, in that namespace or in all, may be namespaces
abbrev holds_namespaces : ResourceRow → List ℕ → Bool
holds_namespaces row namespace = is_of_namespaces row && (length namespace == 0)

-- a namespace is in no namespace
in_none : (row : ResourceRow) (namespace name : List ℕ) (k : Key) → is_within row namespace name k ≡ true → is_namespace k ≡ true → holds_namespaces row namespace ≡ true
in_none row namespace name k at is =
    let group = and_parts (bytes_eq row.group k.group) _ at in
    let resource = and_parts (bytes_eq row.plural k.resource) _ group.1 in
    let asked = and_parts (is_asked namespace k.namespace) _ resource.1 in
    let core = and_parts (bytes_eq k.group []) _ is in
    let named = and_parts (bytes_eq k.resource (codes "namespaces")) _ core.1 in
    let no_group : row.group ≡ [] = (bytes_eq-Decides row.group k.group).0 group.0 ∙ (bytes_eq-Decides k.group []).0 core.0 in
    let plural : row.plural ≡ codes "namespaces" = (bytes_eq-Decides row.plural k.resource).0 resource.0 ∙ (bytes_eq-Decides k.resource (codes "namespaces")).0 named.0 in
    let none : is_asked namespace [] ≡ true = ap (is_asked namespace) (sym ((bytes_eq-Decides k.namespace []).0 named.1)) ∙ asked.0 in
    rw (no_group, plural) (any namespace none)
  where
    any : (namespace : List ℕ) → is_asked namespace [] ≡ true → (length namespace == 0) ≡ true
    any [] asked = refl
    any (b ∷ bs) asked = absurd (cc asked)

-- a collection that is served by its place holds no namespaces
collection_place : (row : ResourceRow) (a : Attributes) (p : ResourcePoint) → place_on row a p ≡ Some place.Collection → holds_namespaces row (namespace_on row a.namespace) ≡ false
unfolding place_on place_of collection_of
collection_place row a p =
    by_tests (is_review_group row) (a.parts == 1) row.namespaced (length a.namespace == 0) (is_of_namespaces row) refl (reviews_place row a) elsewhere
    (if_some (a.parts == 1 && beq row.namespaced (not (length a.namespace == 0))) place.Reviews (λ is. cc is))
    (no_collection (has_right_namespace row a p) (a.parts == 2) (a.parts == 3) (row.has_status && bytes_eq p.subresource (codes "status")))
  where
    elsewhere : Option Place
    elsewhere =
        if not (has_right_namespace row a p) then None else (if a.parts == 2 then Some place.Object else (if a.parts == 3 then subresource_of row p else None))

    no_collection : (right two three status : Bool)
        → (if not right then None else (if two then Some place.Object else (if three then (if status then Some place.Status else None) else None))) ≡ Some place.Collection → ⊥
    no_collection false two three status is = cc is
    no_collection true true three status is = cc is
    no_collection true false true true is = cc is
    no_collection true false true false is = cc is
    no_collection true false false status is = cc is

    if_some : (b : Bool) (at : Place) → (at ≡ place.Collection → ⊥) → (if b then Some at else None) ≡ Some place.Collection → ⊥
    if_some true at apart is = apart (cc is)
    if_some false at apart is = cc is

    by_tests : (review one namespaced empty names : Bool) → (length a.namespace == 0) ≡ empty → (first last : Option Place) → (first ≡ Some place.Collection → ⊥) → (last ≡ Some place.Collection → ⊥)
        → (if review then first else (if one then (if namespaced then Some (if empty then place.AllNamespaces else place.Collection)
        else (if empty then Some (if names then place.Namespaces else place.Collection) else None)) else last)) ≡ Some place.Collection
        → (names && (length (if namespaced then a.namespace else []) == 0)) ≡ false
    by_tests true one namespaced empty names so first last apart away is = absurd (apart is)
    by_tests false false namespaced empty names so first last apart away is = absurd (away is)
    by_tests false true true true names so first last apart away is = absurd (cc is)
    by_tests false true true false true so first last apart away is = so
    by_tests false true namespaced empty false so first last apart away is = refl
    by_tests false true false true true so first last apart away is = absurd (cc is)
    by_tests false true false false true so first last apart away is = absurd (cc is)

-- collections are deleted at no other place
module _ (verb : List ℕ) where
  -- the action deletes a collection only at the place of one
  abbrev DeletesAt : Place → Action → Type 0
  DeletesAt at act = act ≡ action.DeleteCollection → at ≡ place.Collection

  any_action : (x : Result Action Refused) → IfOk x (DeletesAt place.Collection)
  any_action (Ok act) = λ is. refl
  any_action (Err refused) = tt

  reads : (at : Place) → DeletesAt at (read_action verb)
  reads at = by_test (bytes_eq verb (codes "watch"))
    where
      by_test : (b : Bool) → DeletesAt at (if b then action.Watch else action.List)
      by_test true is = absurd (cc is)
      by_test false is = absurd (cc is)

  deletes_at : (at : Place) (method : Method) → IfOk (action_at at verb method) (DeletesAt at)
  unfolding action_at
  deletes_at place.Collection method = any_action (action_at place.Collection verb method)
  deletes_at place.Namespaces Get = reads place.Namespaces
  deletes_at place.Namespaces Post = λ is. absurd (cc is)
  deletes_at place.Namespaces method = tt
  deletes_at place.AllNamespaces Get = reads place.AllNamespaces
  deletes_at place.AllNamespaces method = tt
  deletes_at place.Reviews Post = λ is. absurd (cc is)
  deletes_at place.Reviews method = tt
  deletes_at place.Object Get = λ is. absurd (cc is)
  deletes_at place.Object Put = λ is. absurd (cc is)
  deletes_at place.Object Patch = λ is. absurd (cc is)
  deletes_at place.Object Delete = λ is. absurd (cc is)
  deletes_at place.Object Post = tt
  deletes_at place.Status Get = λ is. absurd (cc is)
  deletes_at place.Status Put = λ is. absurd (cc is)
  deletes_at place.Status Patch = λ is. absurd (cc is)
  deletes_at place.Status method = tt
  deletes_at place.Health method = tt

-- a route that deletes a collection deletes no namespaces
abbrev SparesNamespaces : Attributes → Routed → Type 0
SparesNamespaces a health = Unit {0}
SparesNamespaces a (resource r) = r.action ≡ action.DeleteCollection → holds_namespaces r.row (namespace_on r.row a.namespace) ≡ false

row_spares : (method : Method) (a : Attributes) (row : ResourceRow) (p : ResourcePoint) → IfOk (on_row row method a p) (SparesNamespaces a)
unfolding on_row
row_spares method a row p =
    bind_holds (ok_or (place_on row a p) (asked_for refusal.NoSuchResource)) _ (SparesNamespaces a) (λ at found. bind_holds (action_at at p.verb method) _ (SparesNamespaces a)
    (λ act acts is. collection_place row a p (at_place (place_on row a p) at found ∙ ap Some (returned (action_at at p.verb method) (DeletesAt p.verb at) act acts (deletes_at p.verb at method) is))))
  where
    at_place : (o : Option Place) (at : Place) → ok_or o (asked_for refusal.NoSuchResource) ≡ Ok at → o ≡ Some at
    at_place (Some b) at is = let same : b ≡ at = cc in ap Some same
    at_place None at is = absurd (cc is)

-- no namespace is deleted with a collection
pub namespaces_stay : (table : List ResourceRow) (method : Method) (a : Attributes) (r : ResourceRouted) (name : List ℕ) (k : Key) → routed table method a ≡ Ok (resource r)
    → r.action ≡ action.DeleteCollection → is_within r.row (namespace_on r.row a.namespace) name k ≡ true → is_namespace k ≡ false
namespaces_stay table method a r name k routes is at = by_test (is_namespace k) refl
  where
    spared : holds_namespaces r.row (namespace_on r.row a.namespace) ≡ false
    spared = returned (routed table method a) (SparesNamespaces a) (resource r) routes (route_holds table method a (SparesNamespaces a) tt (λ p row is found. row_spares method a row p)) is

    by_test : (b : Bool) → is_namespace k ≡ b → b ≡ false
    by_test true so = sym (in_none r.row (namespace_on r.row a.namespace) name k at so) ∙ spared
    by_test false so = refl
