-- Two states that differ in a Secret, and a user who cannot tell them apart: she may get pods, and do nothing else.
use Rattle.std.specs.Prelude.{ℕ, true, false, List, [], ◌∷◌, None, codes}
use Rattle.serde_json.specs.Data.{Data, Members, no_members, object}
use Rattle.kapi_object.specs.Contents.{binding_content, cluster_role_content}
use Rattle.kapi_model.specs.Kinds.{rbac_group}
use Rattle.kapi_model.specs.declared.identity.Identity.{Identity}
use Rattle.kapi_model.specs.declared.kinds.RoleKind.TheVariants as role_kind
use Rattle.kapi_model.specs.declared.row.ResourceRow.{ResourceRow}
use Rattle.kapi_model.specs.declared.row.Schema.TheVariants as schema
use Rattle.kapi_model.specs.declared.subject.Subject.TheVariants.{User}
use Rattle.kapi_rules.specs.Worked.{get_on}
use Rattle.kapi_store.specs.Plain.{Plain}
use Rattle.kapi_store.specs.declared.key.Key.{Key}
use Rattle.kapi_answer.specs.Create.{key_at}

-- a user in no group: Eve
abbrev pub eve : Identity
eve = record { user = codes "eve"; groups = [] }

-- a resource type of the core group whose objects live in namespaces
abbrev pub core_type : List ℕ → List ℕ → ResourceRow
core_type plural kind =
    record { group = []; version = codes "v1"; plural = plural; kind = kind; namespaced = true; has_status = false; schema = schema.Open }

abbrev pub pods : ResourceRow
pods = core_type (codes "pods") (codes "Pod")

abbrev pub secrets : ResourceRow
secrets = core_type (codes "secrets") (codes "Secret")

-- an object of no content in the namespace `default`
abbrev pub in_default : ResourceRow → List ℕ → Key × Data
in_default row name = (key_at row (codes "default") name, object no_members)

abbrev pub pod : Key × Data
pod = in_default pods (codes "web")

abbrev pub secret : Key × Data
secret = in_default secrets (codes "token")

-- a cluster role or its binding
abbrev pub policy_object : List ℕ → List ℕ → Members → Key × Data
policy_object plural name content = (record { group = rbac_group; resource = plural; namespace = []; name = name }, object content)

-- the cluster role that allows to get pods, bound to Eve
abbrev pub rights : List (Key × Data)
rights =
    policy_object (codes "clusterrolebindings") (codes "eve") (binding_content (User (codes "eve") ∷ []) (record { kind = role_kind.ClusterRole; name = codes "readers" }))
    ∷ policy_object (codes "clusterroles") (codes "readers") (cluster_role_content None (get_on (codes "pods") ∷ []))
    ∷ []

-- a state of these objects
abbrev pub state_of : List (Key × Data) → Plain
state_of objects = record { table = pods ∷ secrets ∷ []; objects = objects; first = 0; revision = 4 }

abbrev pub with_secret : Plain
with_secret = state_of (pod ∷ secret ∷ rights)

abbrev pub without_secret : Plain
without_secret = state_of (pod ∷ rights)
