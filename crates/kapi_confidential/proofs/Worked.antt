-- The worked states.
use Rattle.std.proofs.Common.{◌≡◌, ℕ, ◌==◌, Bool, true, false, ◌&&◌, ◌||◌, if◌then◌else◌, List, [], ◌∷◌, ◌++◌, Some, None, length, map, refl, sym, ap, ◌∙◌, subst, codes, IfOk, ok_or}
use Rattle.std.proofs.lemmas.Bool.{and_parts}
use Rattle.std.proofs.lemmas.Slice.Eq.{bytes_eq-Decides}
use Rattle.std.specs.List.{flat_map}
use Rattle.std.specs.Map.{lookup}
use Rattle.std.specs.Option.{unwrap_or}
use Rattle.std.specs.Str.{bytes_eq}
use Rattle.kapi_object.specs.Contents.{role_ref_tree, rule_tree, subject_tree}
use Rattle.kapi_http.specs.declared.message.Method.{Method}
use Rattle.kapi_model.specs.declared.kinds.RoleKind.TheVariants as role_kind
use Rattle.kapi_model.specs.declared.row.ResourceRow.{ResourceRow}
use Rattle.kapi_model.specs.declared.subject.Subject.TheVariants.{User}
use Rattle.kapi_rules.specs.Entries.{word_matches}
use Rattle.kapi_rules.specs.Rules.{allows}
use Rattle.kapi_rules.specs.Worked.{get_of, get_on}
use Rattle.kapi_rules.specs.declared.point.Point.{Point}
use Rattle.kapi_rules.specs.declared.point.Point.TheVariants as point
use Rattle.kapi_rules.specs.declared.point.ResourcePoint.{ResourcePoint}
use Rattle.kapi_policy.proofs.Decisions.{allowed_where_held}
use Rattle.kapi_policy.specs.Decided.{bindings_in, cluster_binding, decided, given, held, rules_of}
use Rattle.kapi_policy.specs.Laws.{is_allowed}
use Rattle.kapi_policy.specs.Objects.{PolicyObjects}
use Rattle.kapi_reply.specs.Refusals.{asked_for}
use Rattle.kapi_reply.specs.declared.refusal.Refusal.TheVariants as refusal
use Rattle.kapi_request_info.specs.declared.attributes.Attributes.{Attributes}
use Rattle.kapi_store.specs.Keys.{is_key}
use Rattle.kapi_store.specs.Plain.{free_place, has_namespace, has_object, is_full_namespace}
use Rattle.kapi_escalation.specs.Kind.{policy_kind}
use Rattle.kapi_escalation.specs.Reading.{collected, policy_objects}
use Rattle.kapi_answer.specs.Authorization.{is_authorized}
use Rattle.kapi_answer.specs.Create.{key_at, namespace_on}
use Rattle.kapi_answer.specs.Route.{ResourceRouted, Routed, action_at, health, is_row_of, on_row, place_on, resource, routed}
use Rattle.kapi_confidential.proofs.Collections.{route_holds}
use Rattle.kapi_confidential.proofs.Results.{bind_holds, returned}
use Rattle.kapi_confidential.specs.Alike.{Passes, SeesAlike, within}
use Rattle.kapi_confidential.specs.Worked.{eve, pods, secrets, with_secret, without_secret}
use Rattle.kapi_confidential.specs.Writes.{WritesAlike, place}

-- the policy of both states
abbrev policy : PolicyObjects
policy = record {
  roles = [];
  cluster_roles = (codes "readers", record { aggregation_rule = None; rules = get_on (codes "pods") ∷ [] }) ∷ [];
  role_bindings = [];
  cluster_role_bindings = (codes "eve", record { subjects = User (codes "eve") ∷ []; role_ref = record { kind = role_kind.ClusterRole; name = codes "readers" } }) ∷ [];
}

-- ---- what Eve may do

holds_one : (namespace : List ℕ) → held policy eve namespace ≡ get_on (codes "pods") ∷ []
unfolding held bindings_in given rules_of
holds_one namespace = by_case (length namespace == 0)
  where
    by_case : (b : Bool) → flat_map (λ b. unwrap_or (given policy eve b) []) (map cluster_binding policy.cluster_role_bindings ++ (if b then [] else [])) ≡ get_on (codes "pods") ∷ []
    by_case true = refl
    by_case false = refl

may_by_one : (namespace : List ℕ) (p : Point) → is_allowed (decided policy eve namespace p) ≡ (allows (get_on (codes "pods")) p || false)
may_by_one namespace p = allowed_where_held policy eve namespace p ∙ rw (holds_one namespace) refl

-- nothing about secrets
no_secrets : (p : ResourcePoint) → p.resource ≡ codes "secrets" → (allows (get_on (codes "pods")) (point.Resource p) || false) ≡ false
no_secrets p is = rw is (by_tests (word_matches (codes "get") p.verb || false) (word_matches [] p.group || false) (length p.subresource == 0))
  where
    by_tests : (verb group whole : Bool) → ((verb && (group && (((if whole then false else false) || false) && true))) || false) ≡ false
    by_tests true true true = refl
    by_tests true true false = refl
    by_tests true false whole = refl
    by_tests false group whole = refl

-- a route on which Eve passes authorization is one for pods
abbrev IsOfPods : Attributes → Routed → Type 0
IsOfPods a health = Unit {0}
IsOfPods a (resource r) = is_authorized policy eve a ≡ true → r.row ≡ pods

pods_only : (method : Method) (a : Attributes) → IfOk (routed with_secret.table method a) (IsOfPods a)
unfolding on_row
pods_only method a =
    route_holds with_secret.table method a (IsOfPods a) tt (λ p row at found. bind_holds (ok_or (place_on row a p) (asked_for refusal.NoSuchResource)) _ (IsOfPods a)
    (λ where_to _. bind_holds (action_at where_to p.verb method) _ (IsOfPods a) (λ act _ allowed. by_rows p row at (is_row_of a.version p pods) (is_row_of a.version p secrets) refl found allowed)))
  where
    by_rows : (p : ResourcePoint) (row : ResourceRow) → a.point ≡ point.Resource p → (first second : Bool) → is_row_of a.version p secrets ≡ second
        → (if first then Some pods else (if second then Some secrets else None)) ≡ Some row → is_authorized policy eve a ≡ true → row ≡ pods
    by_rows p row at true second is found allowed = let same : pods ≡ row = cc in sym same
    by_rows p row at false true is found allowed =
        let named = and_parts (bytes_eq (codes "v1") a.version) (bytes_eq (codes "secrets") p.resource) (and_parts (bytes_eq [] p.group) _ is).1 in
        let is_secrets : p.resource ≡ codes "secrets" = sym ((bytes_eq-Decides (codes "secrets") p.resource).0 named.1) in
        let denied : is_authorized policy eve a ≡ false = ap (λ q. is_allowed (decided policy eve a.namespace q)) at ∙ may_by_one a.namespace (point.Resource p) ∙ no_secrets p is_secrets in
        absurd (let never : true ≡ false = sym allowed ∙ denied in cc never)
    by_rows p row at false false is found allowed = absurd (cc found)

module _ (method : Method) (a : Attributes) (r : ResourceRouted) (passed : Passes policy with_secret.table eve method a r) where
  -- what holds of pods holds of each resource type that Eve reaches
  of_pods : (P : ResourceRow → Type 0) → P pods → P r.row
  of_pods P holds = subst P (sym (returned (routed with_secret.table method a) (IsOfPods a) (resource r) passed.routes (pods_only method a) passed.allowed)) holds

  same_object : (name : List ℕ) → lookup (is_key (place r a name)) without_secret.objects ≡ lookup (is_key (place r a name)) with_secret.objects
  same_object name =
      of_pods (λ row. lookup (is_key (key_at row (namespace_on row a.namespace) name)) without_secret.objects ≡ lookup (is_key (key_at row (namespace_on row a.namespace) name)) with_secret.objects) refl

  same_within : (name : List ℕ) → within r.row (namespace_on r.row a.namespace) name without_secret.objects ≡ within r.row (namespace_on r.row a.namespace) name with_secret.objects
  same_within name = of_pods (λ row. within row (namespace_on row a.namespace) name without_secret.objects ≡ within row (namespace_on row a.namespace) name with_secret.objects) refl

  same_place : (name : List ℕ) → free_place without_secret (place r a name) ≡ free_place with_secret (place r a name)
  unfolding free_place has_namespace has_object
  same_place name = of_pods (λ row. free_place without_secret (key_at row (namespace_on row a.namespace) name) ≡ free_place with_secret (key_at row (namespace_on row a.namespace) name)) refl

  no_policy : (name : List ℕ) → policy_kind (place r a name) ≡ None
  unfolding policy_kind
  no_policy name = of_pods (λ row. policy_kind (key_at row (namespace_on row a.namespace) name) ≡ None) refl

  empty : (name : List ℕ) → is_full_namespace without_secret (place r a name) ≡ is_full_namespace with_secret (place r a name)
  empty name = of_pods (λ row. is_full_namespace without_secret (key_at row (namespace_on row a.namespace) name) ≡ is_full_namespace with_secret (key_at row (namespace_on row a.namespace) name)) refl

-- ---- the states

pub seen_alike : SeesAlike eve (policy_objects with_secret.objects) (policy_objects without_secret.objects) with_secret without_secret
unfolding policy_objects collected policy_kind rule_tree subject_tree role_ref_tree
seen_alike = record {
  decides = λ namespace p. refl;
  holds = λ namespace. refl;
  table = refl;
  revision = refl;
  first = refl;
  object = λ method a r passed is. same_object method a r passed r.point.name;
  list = λ method a r f passed read asks. same_within method a r passed f.name;
}

pub written_alike : WritesAlike eve (policy_objects with_secret.objects) (policy_objects without_secret.objects) with_secret without_secret
unfolding policy_objects collected policy_kind rule_tree subject_tree role_ref_tree
written_alike = record {
  object = λ method a r passed changes. same_object method a r passed r.point.name;
  emptiness = λ method a r passed is. empty method a r passed r.point.name;
  collection = λ method a r f passed is asks. same_within method a r passed f.name;
  creation = λ method a r name passed is kept. same_place method a r passed name;
  grants = λ method a r name of tree passed puts is needs. absurd (let never : Some of ≡ None = sym is ∙ no_policy method a r passed name in cc never);
}

pub gets_pods : (namespace : List ℕ) → is_allowed (decided (policy_objects with_secret.objects) eve namespace (get_of (codes "pods"))) ≡ true
unfolding policy_objects collected policy_kind rule_tree subject_tree role_ref_tree
gets_pods namespace = may_by_one namespace (get_of (codes "pods"))
