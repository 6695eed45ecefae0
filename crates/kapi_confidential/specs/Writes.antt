-- What an identity may write, and which states its writes cannot tell apart (Kubernetes, 'Using RBAC Authorization',
-- 'Privilege escalation prevention and bootstrapping').
use Rattle.std.specs.Prelude.{◌≡◌, ℕ, true, false, List, Option, Some, None, Result, Ok, Err}
use Rattle.std.specs.Map.{lookup}
use Rattle.serde_json.specs.Data.{Data}
use Rattle.kapi_model.specs.declared.identity.Identity.{Identity}
use Rattle.kapi_policy.specs.Objects.{PolicyObjects}
use Rattle.kapi_http.specs.declared.message.HttpFault.{HttpFault}
use Rattle.kapi_http.specs.declared.message.HttpRequest.{HttpRequest}
use Rattle.kapi_http.specs.declared.message.Method.{Method}
use Rattle.kapi_request_info.specs.Attributes.{info}
use Rattle.kapi_request_info.specs.declared.attributes.Attributes.{Attributes}
use Rattle.kapi_store.specs.Keys.{is_key}
use Rattle.kapi_store.specs.Plain.{Plain, free_place, is_full_namespace}
use Rattle.kapi_store.specs.declared.key.Key.{Key}
use Rattle.kapi_escalation.specs.Exempt.{is_exempt}
use Rattle.kapi_escalation.specs.Kind.{policy_kind}
use Rattle.kapi_escalation.specs.Laws.{write_of}
use Rattle.kapi_escalation.specs.Writes.{keeps_role, wanted}
use Rattle.kapi_escalation.specs.Written.{written_at}
use Rattle.kapi_escalation.specs.declared.kind.PolicyKind.{PolicyKind}
use Rattle.kapi_escalation.specs.declared.write.PolicyWrite.{PolicyWrite}
use Rattle.kapi_reviews.specs.declared.kind.ReviewKind.{ReviewKind}
use Rattle.kapi_reviews.specs.declared.kind.ReviewKind.TheVariants as kind
use Rattle.kapi_answer.specs.Create.{key_at, namespace_on}
use Rattle.kapi_answer.specs.Impersonation.{made_as}
use Rattle.kapi_answer.specs.Query.{queried}
use Rattle.kapi_answer.specs.Review.{review_kind}
use Rattle.kapi_answer.specs.Route.{ResourceRouted}
use Rattle.kapi_answer.specs.declared.query.Filter.{Filter}
use Rattle.kapi_answer.specs.declared.route.Action.{Action}
use Rattle.kapi_answer.specs.declared.route.Action.TheVariants as action
use Rattle.kapi_confidential.specs.Alike.{Passes, within}

-- ---- what is asked

-- no review, or one of the caller's own rights
abbrev pub IsOfNoOther : Option ReviewKind → Type 0
IsOfNoOther (Some kind.SubjectAccessReview) = ⊥
IsOfNoOther (Some kind.LocalSubjectAccessReview) = ⊥
IsOfNoOther other = Unit {0}

-- if the request passes authorization, it asks nothing about the rights of others
abbrev pub AsksOfNoOther : PolicyObjects → Plain → Identity → Result HttpRequest HttpFault → Type 0
AsksOfNoOther objects s caller (Err fault) = Unit {0}
AsksOfNoOther objects s caller (Ok request) =
    (a : Attributes) (who : Identity) (r : ResourceRouted) → info request.method request.target ≡ Ok a → made_as objects caller request ≡ Ok who
    → Passes objects s.table who request.method a r → IsOfNoOther (review_kind r.row)

-- ---- what is written

-- the action changes or removes one stored object
abbrev pub IsChange : Action → Type 0
IsChange (action.Update part) = Unit {0}
IsChange (action.Patch part) = Unit {0}
IsChange action.Delete = Unit {0}
IsChange act = ⊥

-- on a path with the first name the action puts an object of the second: the same, but the body of a create gives any
abbrev pub Puts : Action → List ℕ → List ℕ → Type 0
Puts action.Create path name = Unit {0}
Puts (action.Update part) path name = path ≡ name
Puts (action.Patch part) path name = path ≡ name
Puts act path name = ⊥

-- the place of the object of a name, of the resource type and in the namespace that a request is about
abbrev pub place : ResourceRouted → Attributes → List ℕ → Key
place r a name = key_at r.row (namespace_on r.row a.namespace) name

-- the write of a role or binding that puts the tree at the key
abbrev pub write_at : Plain → ResourceRouted → Key → PolicyKind → Data → PolicyWrite
write_at s r k of tree = write_of r.point.name (written_at of k (lookup (is_key k) s.objects) tree)

-- the write is checked against the rules that it grants: a binding keeps its role, and the identity is not exempt
pub record NeedsRules (objects : PolicyObjects) (who : Identity) (w : PolicyWrite) : Type 0 where
  pub keeps : keeps_role w.object ≡ true
  pub bound : is_exempt objects who w ≡ false

-- what an identity writes cannot tell two states apart. Each object that it may update, patch or delete is in both or in neither. Each
-- namespace that it may delete holds objects in both or in neither. What it may delete as a collection is the same. Each place where
-- it may create is free in both, taken in both, or in both in a namespace that does not exist. Each role or binding that it may put
-- grants the same rules, where they count: the role of a binding has the same rules in both, or is in neither.
pub record WritesAlike (who : Identity) (objects other : PolicyObjects) (s t : Plain) : Type 0 where
  pub object : (method : Method) (a : Attributes) (r : ResourceRouted) → Passes objects s.table who method a r → IsChange r.action
      → lookup (is_key (place r a r.point.name)) t.objects ≡ lookup (is_key (place r a r.point.name)) s.objects
  pub emptiness : (method : Method) (a : Attributes) (r : ResourceRouted) → Passes objects s.table who method a r → r.action ≡ action.Delete
      → is_full_namespace t (place r a r.point.name) ≡ is_full_namespace s (place r a r.point.name)
  pub collection : (method : Method) (a : Attributes) (r : ResourceRouted) (filter : Filter) → Passes objects s.table who method a r → r.action ≡ action.DeleteCollection
      → queried r.action s.revision a.query ≡ Ok filter
      → within r.row (namespace_on r.row a.namespace) filter.name t.objects ≡ within r.row (namespace_on r.row a.namespace) filter.name s.objects
  pub creation : (method : Method) (a : Attributes) (r : ResourceRouted) (name : List ℕ) → Passes objects s.table who method a r → r.action ≡ action.Create
      → review_kind r.row ≡ None → free_place t (place r a name) ≡ free_place s (place r a name)
  pub grants : (method : Method) (a : Attributes) (r : ResourceRouted) (name : List ℕ) (of : PolicyKind) (tree : Data) → Passes objects s.table who method a r
      → Puts r.action r.point.name name → policy_kind (place r a name) ≡ Some of → NeedsRules objects who (write_at s r (place r a name) of tree)
      → wanted other (write_at s r (place r a name) of tree).object ≡ wanted objects (write_at s r (place r a name) of tree).object
