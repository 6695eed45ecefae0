-- The objects that every policy begins with, unless a file has another of the same kind and name (Kubernetes, 'Using RBAC
-- Authorization', user-facing roles and API discovery roles).
use Rattle.std.specs.Prelude.{ℕ, ◌&&◌, Bool, if◌then◌else◌, List, [], ◌∷◌, ◌++◌, codes, flat_map, Option, Some, None}
use Rattle.std.specs.List.{list_any}
use Rattle.std.specs.Str.{bytes_eq}
use Rattle.serde_json.specs.Data.{Data}
use Rattle.serde_json.specs.Read.{read}
use Rattle.kapi_manifests.specs.Kinds.{kind_of, metadata_text}
use Rattle.kapi_manifests.specs.declared.defaults.TheConstants.{ADMIN, EDIT, VIEW, AGGREGATE_TO_ADMIN, AGGREGATE_TO_EDIT, AGGREGATE_TO_VIEW}
use Rattle.kapi_manifests.specs.declared.default_objects.DefaultObject.{DefaultObject}

-- an object: its kind, its name, and its text
pub record ObjectByDefault : Type 0 where
  pub kind : List ℕ
  pub name : List ℕ
  pub text : List ℕ

-- an object, as data
abbrev pub model_of_object : DefaultObject → ObjectByDefault
model_of_object s = record { kind = s.kind.now; name = s.name.now; text = s.text.now }

-- the namespace `default`
unfoldable pub default_namespace_objects : List ObjectByDefault
default_namespace_objects =
    record { kind = codes "Namespace"; name = codes "default"; text = codes "{\"apiVersion\":\"v1\",\"kind\":\"Namespace\",\"metadata\":{\"name\":\"default\"}}" } ∷ []

-- the role that allows everything, the role by which users may review their own access, and a binding of each
unfoldable pub default_role_objects : List ObjectByDefault
default_role_objects =
    record { kind = codes "ClusterRole"; name = codes "cluster-admin"; text = codes "{\"apiVersion\":\"rbac.authorization.k8s.io/v1\",\"kind\":\"ClusterRole\",\"metadata\":{\"name\":\"cluster-admin\"},\"rules\":[{\"apiGroups\":[\"*\"],\"resources\":[\"*\"],\"verbs\":[\"*\"]},{\"nonResourceURLs\":[\"*\"],\"verbs\":[\"*\"]}]}" }
    ∷ record { kind = codes "ClusterRole"; name = codes "system:basic-user"; text = codes "{\"apiVersion\":\"rbac.authorization.k8s.io/v1\",\"kind\":\"ClusterRole\",\"metadata\":{\"name\":\"system:basic-user\"},\"rules\":[{\"apiGroups\":[\"authorization.k8s.io\"],\"resources\":[\"selfsubjectaccessreviews\",\"selfsubjectrulesreviews\"],\"verbs\":[\"create\"]}]}" }
    ∷ record { kind = codes "ClusterRoleBinding"; name = codes "cluster-admin"; text = codes "{\"apiVersion\":\"rbac.authorization.k8s.io/v1\",\"kind\":\"ClusterRoleBinding\",\"metadata\":{\"name\":\"cluster-admin\"},\"roleRef\":{\"apiGroup\":\"rbac.authorization.k8s.io\",\"kind\":\"ClusterRole\",\"name\":\"cluster-admin\"},\"subjects\":[{\"apiGroup\":\"rbac.authorization.k8s.io\",\"kind\":\"Group\",\"name\":\"system:masters\"}]}" }
    ∷ record { kind = codes "ClusterRoleBinding"; name = codes "system:basic-user"; text = codes "{\"apiVersion\":\"rbac.authorization.k8s.io/v1\",\"kind\":\"ClusterRoleBinding\",\"metadata\":{\"name\":\"system:basic-user\"},\"roleRef\":{\"apiGroup\":\"rbac.authorization.k8s.io\",\"kind\":\"ClusterRole\",\"name\":\"system:basic-user\"},\"subjects\":[{\"apiGroup\":\"rbac.authorization.k8s.io\",\"kind\":\"Group\",\"name\":\"system:authenticated\"}]}" }
    ∷ []

-- a cluster role of that name and text
abbrev pub default_role : List ℕ → List ℕ → ObjectByDefault
default_role name text = record { kind = codes "ClusterRole"; name = name; text = text }

-- the roles that a cluster gives its users, and the parts of which they are made (Kubernetes, 'User-facing roles')
unfoldable pub default_roles : List ObjectByDefault
default_roles =
    default_role (codes "admin") ADMIN.now ∷ default_role (codes "edit") EDIT.now ∷ default_role (codes "view") VIEW.now
    ∷ default_role (codes "system:aggregate-to-admin") AGGREGATE_TO_ADMIN.now ∷ default_role (codes "system:aggregate-to-edit") AGGREGATE_TO_EDIT.now
    ∷ default_role (codes "system:aggregate-to-view") AGGREGATE_TO_VIEW.now ∷ []

-- what stands beneath files: what every policy begins with, and the default roles if they are asked for
abbrev pub all_default_objects : Bool → List ObjectByDefault
all_default_objects defaults = default_role_objects ++ (if defaults then default_roles else [])

-- the object is of that kind and name
abbrev pub is_same : ObjectByDefault → Data → Bool
is_same s d = bytes_eq (kind_of d) s.kind && bytes_eq (metadata_text (codes "name") d) s.name

abbrev pub if_some : Option Data → List Data
if_some (Some d) = d ∷ []
if_some None = []

-- the object that a text is
unfoldable pub object_read : List ℕ → List Data
object_read text = if_some (read text)

-- the object, unless one of its kind and name is among others
abbrev pub default_if : List Data → ObjectByDefault → List Data
default_if others s = if list_any (is_same s) others then [] else object_read s.text

-- those of the objects that have none of their kinds and names among others
abbrev pub defaults_among : List Data → List ObjectByDefault → List Data
defaults_among others objects = flat_map (default_if others) objects
