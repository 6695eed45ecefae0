-- The table of refusals: the whole failure of each (Kubernetes API conventions, 'HTTP Status codes').
use Rattle.std.specs.Prelude.{ℕ, ◌==◌, if◌then◌else◌, List, [], ◌∷◌, ◌++◌, length, map, codes, Option, Some, None}
use Rattle.std.specs.Fmt.{decimal}
use Rattle.std.specs.Option.{unwrap_or}
use Rattle.serde_json.specs.Data.{Data}
use Rattle.kapi_http.specs.Message.{method_text, status_phrase}
use Rattle.kapi_http.specs.declared.message.Method.{Method}
use Rattle.kapi_http.specs.declared.message.Method.TheVariants as method
use Rattle.kapi_http.specs.declared.message.StatusCode.{StatusCode}
use Rattle.kapi_http.specs.declared.message.StatusCode.TheVariants as status
use Rattle.kapi_request_info.specs.declared.attributes.Attributes.{Attributes}
use Rattle.kapi_rules.specs.declared.point.Point.{Point}
use Rattle.kapi_rules.specs.declared.point.Point.TheVariants as point
use Rattle.kapi_reply.specs.declared.refusal.BadRequestReason.{BadRequestReason}
use Rattle.kapi_reply.specs.declared.refusal.BadRequestReason.TheVariants as word
use Rattle.kapi_reply.specs.declared.refusal.CheckError.{CheckError}
use Rattle.kapi_reply.specs.declared.refusal.CheckError.TheVariants as error
use Rattle.kapi_reply.specs.declared.refusal.NamedRole.{NamedRole}
use Rattle.kapi_reply.specs.declared.refusal.OldRevision.{OldRevision}
use Rattle.kapi_reply.specs.declared.refusal.Place.{Place}
use Rattle.kapi_reply.specs.declared.refusal.Place.TheVariants as place
use Rattle.kapi_reply.specs.declared.refusal.Refusal.{Refusal}
use Rattle.kapi_reply.specs.declared.refusal.Refusal.TheVariants as refusal
use Rattle.kapi_reply.specs.declared.refusal.Refused.{Refused}
use Rattle.kapi_reply.specs.declared.refusal.Revisions.{Revisions}
use Rattle.kapi_reply.specs.declared.refusal.Nonexistent.{Nonexistent}
use Rattle.kapi_reply.specs.declared.refusal.Nonexistent.TheVariants as sought
use Rattle.kapi_reply.specs.Status.{Failed, Subject, changed_role_ref, invalid_field, missing_atom, missing_permission}

-- refused for the object or collection that the path names
abbrev pub asked_for : Refusal → Refused
asked_for why = record { name = None; why = why }

-- refused for the object of that name
abbrev pub named : List ℕ → Refusal → Refused
named name why = record { name = Some name; why = why }

-- the refusal that an error reports; none if it is out of memory
abbrev pub refused_by : CheckError → Option Refused
refused_by (error.Refused r) = Some r
refused_by error.Memory = None

-- a refused request: its identity, its method and its attributes
pub record RefusedRequest : Type 0 where
  pub user : List ℕ
  pub method : Method
  pub attributes : Attributes

-- the resource of a point; none of a point about no resource
abbrev pub resource_of : Point → List ℕ
resource_of (point.Resource p) = p.resource
resource_of (point.Url u) = []

-- the name of a point
abbrev pub name_of : Point → List ℕ
name_of (point.Resource p) = p.name
name_of (point.Url u) = []

-- the name of the object that a refusal is about
abbrev pub name_in : RefusedRequest → Refused → List ℕ
name_in asked r = unwrap_or r.name (name_of asked.attributes.point)

-- the subject of a failure about an object of that name; none if the request is about no resource
unfoldable pub subject_of : Point → List ℕ → Option Subject
subject_of (point.Resource p) name = Some (record { group = p.group; resource = p.resource; name = name })
subject_of (point.Url u) name = None

-- the word of a bad request
abbrev pub word_text : BadRequestReason → List ℕ
word_text word.Target = codes "target"
word_text word.Escape = codes "escape"
word_text word.Query = codes "query"
word_text word.Impersonation = codes "impersonation"
word_text word.Json = codes "json"
word_text word.Float = codes "float"
word_text word.Kind = codes "kind"
word_text word.Version = codes "version"
word_text word.Name = codes "name"
word_text word.Namespace = codes "namespace"
word_text word.Option = codes "option"

-- the methods that are served at a place
unfoldable pub methods_at : Place → List Method
methods_at place.Collection = method.Get ∷ method.Post ∷ method.Delete ∷ []
methods_at place.Namespaces = method.Get ∷ method.Post ∷ []
methods_at place.AllNamespaces = method.Get ∷ []
methods_at place.Object = method.Get ∷ method.Put ∷ method.Patch ∷ method.Delete ∷ []
methods_at place.Status = method.Get ∷ method.Put ∷ method.Patch ∷ []
methods_at place.Reviews = method.Post ∷ []
methods_at place.Health = method.Get ∷ []

-- the text that says where a denial holds
unfoldable pub denied_text : List ℕ → List ℕ → List ℕ
denied_text user namespace =
    if length namespace == 0 then user ++ codes " may not do this cluster-wide"
    else user ++ codes " may not do this in namespace " ++ namespace

-- the text that says where an escalation would hold (Kubernetes, 'Using RBAC Authorization', 'Privilege escalation
-- prevention and bootstrapping')
unfoldable pub escalation_text : List ℕ → List ℕ → List ℕ
escalation_text user namespace =
    if length namespace == 0 then user ++ codes " does not hold these permissions cluster-wide"
    else user ++ codes " does not hold these permissions in namespace " ++ namespace

-- a failure with a code, a word for programs and a message, and no more
abbrev pub failed : StatusCode → List ℕ → List ℕ → Failed
failed code reason message = record { code = code; reason = reason; message = message; causes = []; allow = [] }

-- what is said of an object: its resource, its name and the words
abbrev pub said_of : RefusedRequest → List ℕ → List ℕ → List ℕ
said_of asked name words = resource_of asked.attributes.point ++ codes " " ++ name ++ words

-- the failure of a bad request
abbrev pub bad_request : List ℕ → Failed
bad_request text = failed status.BadRequest (codes "BadRequest") (codes "bad request: " ++ text)

-- the failure of a method that is not served, with the served methods
abbrev pub not_allowed : List ℕ → List Method → Failed
not_allowed text allow = record (failed status.MethodNotAllowed (codes "MethodNotAllowed") (text ++ codes " is not served here")) { allow = allow }

-- the failure if an object or a resource is not found
unfoldable pub not_found : RefusedRequest → List ℕ → Nonexistent → Failed
not_found asked name sought.Object = failed status.NotFound (codes "NotFound") (said_of asked name (codes " not found"))
not_found asked name sought.Namespace =
    failed status.NotFound (codes "NotFound") (codes "namespaces " ++ asked.attributes.namespace ++ codes " not found")

-- the failure if a binding refers to a role that does not exist
abbrev pub role_not_found : NamedRole → Failed
role_not_found role = failed status.NotFound (codes "NotFound") (role.resource ++ codes " " ++ role.name ++ codes " not found")

-- the failure of a body with faults, each of them a cause
abbrev pub invalid : RefusedRequest → List ℕ → List Data → Failed
invalid asked name causes =
    record (failed status.UnprocessableContent (codes "Invalid") (said_of asked name (codes " is invalid"))) { causes = causes }

-- the failure if a revision is not reached yet (Kubernetes, 'Kubernetes API Concepts', 'Resource versions')
abbrev pub not_yet_reached : Revisions → Failed
not_yet_reached r =
    failed status.GatewayTimeout (codes "Timeout") (codes "resourceVersion " ++ (decimal r.asked ++ (codes " is above the current " ++ decimal r.current)))

-- the failure where a watch would begin, or goes on, below the window of the changes that are kept (Kubernetes,
-- 'Kubernetes API Concepts', '410 Gone responses')
abbrev pub expired : OldRevision → Failed
expired r =
    failed status.Gone (codes "Expired") (codes "resourceVersion " ++ (decimal r.asked ++ (codes " is below the window, which begins at " ++ decimal r.begins)))

-- the failure for a refusal about the object of that name
unfoldable pub failure_of : RefusedRequest → List ℕ → Refusal → Failed
failure_of asked name (refusal.BadRequest w) = bad_request (word_text w)
failure_of asked name (refusal.Impersonation points) =
    record (failed status.Forbidden (codes "Forbidden") (asked.user ++ codes " may not impersonate")) {
      causes = map missing_permission points;
    }
failure_of asked name refusal.Forbidden =
    record (failed status.Forbidden (codes "Forbidden") (denied_text asked.user asked.attributes.namespace)) {
      causes = missing_permission asked.attributes.point ∷ [];
    }
failure_of asked name (refusal.Escalation atoms) =
    record (failed status.Forbidden (codes "Forbidden") (escalation_text asked.user asked.attributes.namespace)) {
      causes = map missing_atom atoms;
    }
failure_of asked name refusal.NoSuchResource = failed status.NotFound (codes "NotFound") (codes "no such resource")
failure_of asked name (refusal.NotFound what) = not_found asked name what
failure_of asked name (refusal.RoleNotFound role) = role_not_found role
failure_of asked name (refusal.MethodNotAllowed p) = not_allowed (method_text asked.method) (methods_at p)
failure_of asked name refusal.UnsupportedMediaType =
    failed status.UnsupportedMediaType (codes "UnsupportedMediaType") (codes "this body is not accepted")
failure_of asked name refusal.AlreadyExists = failed status.Conflict (codes "AlreadyExists") (said_of asked name (codes " already exists"))
failure_of asked name (refusal.Conflict version) =
    failed status.Conflict (codes "Conflict") (said_of asked name (codes " is at resourceVersion " ++ version))
failure_of asked name (refusal.Invalid faults) = invalid asked name (map invalid_field faults)
failure_of asked name refusal.RoleRefChanged = invalid asked name (changed_role_ref ∷ [])
failure_of asked name refusal.NamespaceNotEmpty = failed status.Conflict (codes "Conflict") (said_of asked name (codes " still holds objects"))
failure_of asked name refusal.NoRevisionLeft = failed status.ServiceUnavailable (codes "ServiceUnavailable") (codes "no revision is left")
failure_of asked name (refusal.NotYetReached revisions) = not_yet_reached revisions
failure_of asked name (refusal.Expired old) = expired old

-- ---- bytes that are no request

-- the methods that the server knows
abbrev pub all_methods : List Method
all_methods = method.Get ∷ method.Post ∷ method.Put ∷ method.Patch ∷ method.Delete ∷ []

-- the failure for bytes that are no request, by its code and its word
unfoldable pub fault_failure : StatusCode → List ℕ → Failed
fault_failure status.BadRequest text = bad_request text
fault_failure status.MethodNotAllowed text = not_allowed text all_methods
fault_failure status.ContentTooLarge text = failed status.ContentTooLarge (codes "RequestEntityTooLarge") (codes "the body is too large")
fault_failure code text = failed code [] (status_phrase code)
