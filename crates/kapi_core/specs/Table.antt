-- Which tables of resources can be served.
use Rattle.std.specs.Prelude.{ℕ, Bool, true, false, not, ◌&&◌, ◌||◌, List, [], ◌∷◌, codes}
use Rattle.std.specs.Bool.{beq}
use Rattle.std.specs.List.{list_all, list_any}
use Rattle.std.specs.Str.{bytes_eq}
use Rattle.kapi_model.specs.Kinds.{rbac_group}
use Rattle.kapi_model.specs.declared.row.ResourceRow.{ResourceRow}
use Rattle.kapi_model.specs.declared.row.Schema.{Schema}
use Rattle.kapi_model.specs.declared.row.Schema.TheVariants as schema
use Rattle.kapi_answer.specs.Route.{is_review_group}
use Rattle.kapi_core.specs.declared.resource.Resource.{Resource}

-- a resource as a resource type of a table: all are of version v1
abbrev pub row_of : Resource → ResourceRow
row_of r = record {
  group = r.group.now;
  version = codes "v1";
  plural = r.plural.now;
  kind = r.kind.now;
  namespaced = r.namespaced;
  has_status = r.has_status;
  schema = r.schema;
}

-- the resource type of version v1 with these parts
abbrev pub v1_row : List ℕ → List ℕ → List ℕ → Bool → Bool → Schema → ResourceRow
v1_row group plural kind namespaced has_status of =
    record { group = group; version = codes "v1"; plural = plural; kind = kind; namespaced = namespaced; has_status = has_status; schema = of }

-- namespaces are in no namespace and have a status (Kubernetes API, `Namespace` of v1)
abbrev pub namespaces_row : ResourceRow
namespaces_row = v1_row [] (codes "namespaces") (codes "Namespace") false true schema.Open

-- roles, the first of the four kinds of the policy (Kubernetes API, rbac.authorization.k8s.io/v1)
abbrev pub roles_row : ResourceRow
roles_row = v1_row rbac_group (codes "roles") (codes "Role") true false schema.Role

-- role bindings, the second of the four kinds of the policy
abbrev pub role_bindings_row : ResourceRow
role_bindings_row = v1_row rbac_group (codes "rolebindings") (codes "RoleBinding") true false schema.RoleBinding

-- cluster roles, the third of the four kinds of the policy
abbrev pub cluster_roles_row : ResourceRow
cluster_roles_row = v1_row rbac_group (codes "clusterroles") (codes "ClusterRole") false false schema.ClusterRole

-- cluster role bindings, the fourth of the four kinds of the policy
abbrev pub cluster_role_bindings_row : ResourceRow
cluster_role_bindings_row = v1_row rbac_group (codes "clusterrolebindings") (codes "ClusterRoleBinding") false false schema.ClusterRoleBinding

-- the group of reviews
abbrev pub reviews_group : List ℕ
reviews_group = codes "authorization.k8s.io"

-- reviews of one's own access, the first of the four kinds of reviews (Kubernetes API, authorization.k8s.io/v1)
abbrev pub own_access_reviews_row : ResourceRow
own_access_reviews_row = v1_row reviews_group (codes "selfsubjectaccessreviews") (codes "SelfSubjectAccessReview") false false schema.Open

-- reviews of the access of others, the second of the four kinds of reviews
abbrev pub access_reviews_row : ResourceRow
access_reviews_row = v1_row reviews_group (codes "subjectaccessreviews") (codes "SubjectAccessReview") false false schema.Open

-- reviews of the access of others in a namespace, the third of the four kinds of reviews
abbrev pub local_access_reviews_row : ResourceRow
local_access_reviews_row = v1_row reviews_group (codes "localsubjectaccessreviews") (codes "LocalSubjectAccessReview") true false schema.Open

-- reviews of rules, the fourth of the four kinds of reviews
abbrev pub rules_reviews_row : ResourceRow
rules_reviews_row = v1_row reviews_group (codes "selfsubjectrulesreviews") (codes "SelfSubjectRulesReview") false false schema.Open

-- the resource types that each table has
unfoldable pub required_rows : List ResourceRow
required_rows =
    namespaces_row
    ∷ roles_row
    ∷ role_bindings_row
    ∷ cluster_roles_row
    ∷ cluster_role_bindings_row
    ∷ own_access_reviews_row
    ∷ access_reviews_row
    ∷ local_access_reviews_row
    ∷ rules_reviews_row
    ∷ []

-- two schemas are the same
abbrev pub is_schema : Schema → Schema → Bool
is_schema schema.Open schema.Open = true
is_schema schema.Role schema.Role = true
is_schema schema.ClusterRole schema.ClusterRole = true
is_schema schema.RoleBinding schema.RoleBinding = true
is_schema schema.ClusterRoleBinding schema.ClusterRoleBinding = true
is_schema _ _ = false

-- two resource types alike but for their names
abbrev pub has_form : ResourceRow → ResourceRow → Bool
has_form a b = beq a.namespaced b.namespaced && (beq a.has_status b.has_status && is_schema a.schema b.schema)

-- two resource types alike
unfoldable pub is_row : ResourceRow → ResourceRow → Bool
is_row a b =
    bytes_eq a.group b.group
    && (bytes_eq a.version b.version && (bytes_eq a.plural b.plural && (bytes_eq a.kind b.kind && has_form a b)))

-- some resource type of the table is that one
abbrev pub has_row : List ResourceRow → ResourceRow → Bool
has_row table row = list_any (is_row row) table

-- a resource type of an open schema in another group than reviews
abbrev pub is_further : ResourceRow → Bool
is_further row = is_schema row.schema schema.Open && not (is_review_group row)

-- a further resource type, or one of those that each table has
abbrev pub is_known : ResourceRow → Bool
is_known row = is_further row || list_any (λ required. is_row required row) required_rows

-- resource types of one group that share the plural or the kind
abbrev pub is_like : ResourceRow → ResourceRow → Bool
is_like row other = bytes_eq row.group other.group && (bytes_eq row.plural other.plural || bytes_eq row.kind other.kind)

-- no two resource types of a table clash
unfoldable pub rows_differ : List ResourceRow → Bool
rows_differ [] = true
rows_differ (row ∷ later) = not (list_any (λ other. is_like row other) later) && rows_differ later

-- a table that can be served
abbrev pub fits : List ResourceRow → Bool
fits table = list_all (has_row table) required_rows && (list_all is_known table && rows_differ table)
