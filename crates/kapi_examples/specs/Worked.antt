-- The small inputs of the worked values.
use Rattle.std.specs.Prelude.{ℕ, true, false, List, [], ◌∷◌, codes, Some, None, unwrap_or}
use Rattle.serde_json.specs.Data.{Data, null}
use Rattle.kapi_aggregation.specs.Roles.{Labelled, labelled_at}
use Rattle.kapi_http.specs.declared.message.HttpRequest.{HttpRequest}
use Rattle.kapi_http.specs.declared.message.Method.TheVariants.{Get}
use Rattle.kapi_model.specs.declared.identity.Identity.{Identity}
use Rattle.kapi_model.specs.declared.kinds.RoleKind.TheVariants as role_kind
use Rattle.kapi_model.specs.declared.policy_rule.PolicyRule.{PolicyRule}
use Rattle.kapi_model.specs.declared.row.ResourceRow.{ResourceRow}
use Rattle.kapi_model.specs.declared.row.Schema.TheVariants as schema
use Rattle.kapi_model.specs.declared.subject.Subject.TheVariants.{User}
use Rattle.kapi_object.specs.Tree.{json_object}
use Rattle.kapi_policy.specs.Objects.{PolicyObjects, no_objects}
use Rattle.kapi_reply.specs.Refusals.{RefusedRequest}
use Rattle.kapi_rules.specs.Worked.{get_of, get_on}
use Rattle.kapi_store.specs.Plain.{Plain, PlainChange, opened}
use Rattle.kapi_store.specs.declared.key.Key.{Key}
use Rattle.kapi_watch.specs.Watches.{PlainWatch, started_at}

-- a user in no group
abbrev pub user : List ℕ → Identity
user name = record { user = name; groups = [] }

-- a user of the group that may do everything
abbrev pub root : Identity
root = record { user = codes "root"; groups = codes "system:masters" ∷ [] }

-- the rule that allows these verbs on pods
abbrev pub on_pods : List (List ℕ) → PolicyRule
on_pods verbs = record (get_on (codes "pods")) { verbs = verbs }

-- in the namespace `n` the role `r` has a rule for services and then one for pods, and the binding `b` gives it to Ann
abbrev pub policy : PolicyObjects
policy = record no_objects {
  roles = (record { namespace = codes "n"; name = codes "r" }, record { rules = get_on (codes "services") ∷ get_on (codes "pods") ∷ [] }) ∷ [];
  role_bindings = (record { namespace = codes "n"; name = codes "b" }, record { subjects = User (codes "ann") ∷ []; role_ref = record { kind = role_kind.Role; name = codes "r" } }) ∷ [];
}

-- the JSON object that a text is
abbrev pub tree : List ℕ → Data
tree text = unwrap_or (json_object text) null

-- three cluster roles with rules for pods; `c`, which is of tier `x` like `a`, aggregates the rules of that tier
abbrev pub roles : List Labelled
roles =
    labelled_at (codes "a") (tree (codes "{\"metadata\":{\"labels\":{\"tier\":\"x\"}},\"rules\":[{\"verbs\":[\"get\"],\"apiGroups\":[\"\"],\"resources\":[\"pods\"]}]}"))
    ∷ labelled_at (codes "b") (tree (codes "{\"metadata\":{\"labels\":{\"tier\":\"y\"}},\"rules\":[{\"verbs\":[\"list\"],\"apiGroups\":[\"\"],\"resources\":[\"pods\"]}]}"))
    ∷ labelled_at (codes "c") (tree (codes "{\"aggregationRule\":{\"clusterRoleSelectors\":[{\"matchLabels\":{\"tier\":\"x\"}}]},\"metadata\":{\"labels\":{\"tier\":\"x\"}},\"rules\":[{\"verbs\":[\"watch\"],\"apiGroups\":[\"\"],\"resources\":[\"pods\"]}]}")) ∷ []

-- pods: objects in namespaces that may have any members
abbrev pub pods : ResourceRow
pods = record { group = []; version = codes "v1"; plural = codes "pods"; kind = codes "Pod"; namespaced = true; has_status = true; schema = schema.Open }

-- the place of the pod `p` of a namespace
abbrev pub pod : List ℕ → Key
pod namespace = record { group = []; resource = codes "pods"; namespace = namespace; name = codes "p" }

-- that pod as revision 6 wrote it
abbrev pub stored : Data
stored = tree (codes "{\"metadata\":{\"resourceVersion\":\"6\",\"uid\":\"u\"}}")

-- a store at revision 6 whose one object is that pod of the namespace `n`
abbrev pub with_pod : Plain
with_pod = record (opened (pods ∷ []) 5) { objects = (pod (codes "n"), stored) ∷ []; revision = 6 }

-- Bob's request to get pods of the namespace `n`
abbrev pub bob_asks : RefusedRequest
bob_asks = record { user = codes "bob"; method = Get; attributes = record { namespace = codes "n"; point = get_of (codes "pods"); version = codes "v1"; parts = 1; query = [] } }

-- a GET without header fields
abbrev pub get : List ℕ → HttpRequest
get target = record { method = Get; target = target; headers = []; body = []; close = false; length = 0 }

-- the pod of the namespace `n` is created, then that of `m`, and then the first is removed
abbrev pub history : List PlainChange
history =
    record { revision = 6; key = pod (codes "n"); old = None; new = Some stored } ∷ record { revision = 7; key = pod (codes "m"); old = None; new = Some stored }
    ∷ record { revision = 8; key = pod (codes "n"); old = Some stored; new = None } ∷ []

-- a watch of the pods of the namespace `n` from revision 5 on that has shown so many events
abbrev pub seen : ℕ → PlainWatch
seen count = record (started_at (record { row = pods; namespace = codes "n"; selector = record { match_labels = []; match_expressions = [] }; name = [] }) 5) { shown = count }
