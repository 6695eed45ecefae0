-- What is suggested as objects, one a line or in a list (Kubernetes API, rbac.authorization.k8s.io/v1).
use Rattle.std.specs.Prelude.{ℕ, ◌==◌, if◌then◌else◌, List, [], ◌∷◌, ◌++◌, length, codes, decimal}
use Rattle.std.specs.List.{enumerate_from, flat_map}
use Rattle.serde_json.specs.Data.{Data, Members, no_members, object, put, string}
use Rattle.serde_json.specs.Written.{compact_text}
use Rattle.kapi_model.specs.Kinds.{role_kind_text}
use Rattle.kapi_model.specs.declared.kinds.RoleKind.{RoleKind}
use Rattle.kapi_model.specs.declared.kinds.RoleKind.TheVariants as role
use Rattle.kapi_model.specs.declared.role_ref.RoleRef.{RoleRef}
use Rattle.kapi_model.specs.declared.subject.Subject.{Subject}
use Rattle.kapi_model.specs.declared.subject.Subject.TheVariants.{User}
use Rattle.kapi_object.specs.Contents.{binding_content, put_text, role_content}
use Rattle.kapi_suggest.specs.declared.suggested.Suggested.{Suggested}

-- the name of what is suggested under a number, the role and its binding
abbrev pub name_of : ℕ → List ℕ
name_of n = codes "suggested-" ++ decimal n

-- the kind of a role in the namespace, empty for one of the whole cluster
abbrev pub role_kind_in : List ℕ → RoleKind
role_kind_in namespace = if length namespace == 0 then role.ClusterRole else role.Role

-- the kind of a binding there
abbrev pub binding_kind_in : List ℕ → List ℕ
binding_kind_in namespace = if length namespace == 0 then codes "ClusterRoleBinding" else codes "RoleBinding"

-- the user, bound to the role of that name in the namespace
abbrev pub subjects_for : Suggested → List Subject
subjects_for s = User s.at.user ∷ []

abbrev pub role_ref_for : List ℕ → Suggested → RoleRef
role_ref_for name s = record { kind = role_kind_in s.at.namespace; name = name }

-- what an object has of its own: its name, and its namespace, if it is in one
abbrev pub metadata_of : List ℕ → List ℕ → Data
metadata_of name namespace = object (put_text (codes "namespace") namespace (put (codes "name") (string name) no_members))

-- the object of a kind with this content
abbrev pub manifest : List ℕ → List ℕ → List ℕ → Members → Data
manifest kind name namespace content =
    object (put (codes "metadata") (metadata_of name namespace)
    (put (codes "kind") (string kind) (put (codes "apiVersion") (string (codes "rbac.authorization.k8s.io/v1")) content)))

-- the role of that name
unfoldable pub role_manifest : List ℕ → Suggested → Data
role_manifest name s = manifest (role_kind_text (role_kind_in s.at.namespace)) name s.at.namespace (role_content s.rules)

-- the binding of that name
unfoldable pub binding_manifest : List ℕ → Suggested → Data
binding_manifest name s = manifest (binding_kind_in s.at.namespace) name s.at.namespace (binding_content (subjects_for s) (role_ref_for name s))

-- the role and the binding of one number, with a text between them
abbrev pub pair_for : List ℕ → ℕ × Suggested → List ℕ
pair_for between numbered =
    compact_text (role_manifest (name_of numbered.0) numbered.1) ++ (between ++ compact_text (binding_manifest (name_of numbered.0) numbered.1))

-- a line with each
abbrev pub lines_for : ℕ × Suggested → List ℕ
lines_for numbered = pair_for (codes "\n") numbered ++ codes "\n"

-- all that is suggested, numbered from 1
abbrev pub manifests : List Suggested → List ℕ
manifests suggested = flat_map lines_for (enumerate_from 1 suggested)

-- both as items of a list, behind a comma unless they are the first
abbrev pub items_for : ℕ × Suggested → List ℕ
items_for numbered = (if numbered.0 == 1 then [] else codes ",") ++ pair_for (codes ",") numbered

-- how a list begins
abbrev pub begun_list : List ℕ
begun_list = codes "{\"apiVersion\":\"v1\",\"items\":["

-- all that is suggested as one list (Kubernetes API conventions, 'Lists and Simple kinds')
abbrev pub list : List Suggested → List ℕ
list suggested = (begun_list ++ flat_map items_for (enumerate_from 1 suggested)) ++ codes "],\"kind\":\"List\"}\n"
