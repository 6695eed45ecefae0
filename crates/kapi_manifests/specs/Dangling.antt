-- Bindings whose role is not in a policy: they give nothing (Kubernetes, 'Using RBAC Authorization').
use Rattle.std.specs.Prelude.{ℕ, ◌&&◌, ◌||◌, not, Bool, if◌then◌else◌, List, [], ◌∷◌, ◌++◌, codes, flat_map, option_and_then}
use Rattle.std.specs.Str.{bytes_eq}
use Rattle.serde_json.specs.Data.{Data}
use Rattle.serde_json.specs.Find.{get}
use Rattle.serde_json.specs.View.{view}
use Rattle.kapi_manifests.specs.Kinds.{kind_of, metadata_text, text_or_empty}
use Rattle.kapi_manifests.specs.Made.{Names, has, with_name}
use Rattle.kapi_manifests.specs.declared.dangling.Dangling.{Dangling}
use Rattle.kapi_manifests.specs.declared.fault.Origin.{Origin}
use Rattle.kapi_manifests.specs.declared.sorted.Manifest.{Manifest}

-- a role by its kind, its namespace, and its name; a cluster role is in no namespace
unfoldable pub role_key : List ℕ → List ℕ → List ℕ → List ℕ
role_key kind namespace name = kind ++ (codes "/" ++ (namespace ++ (codes "/" ++ name)))

-- the namespace of a role of that kind, if objects beside it are in this one
abbrev pub home_of : List ℕ → List ℕ → List ℕ
home_of kind namespace = if bytes_eq kind (codes "Role") then namespace else codes ""

-- the text at a key of the reference to a role
abbrev pub reference_text : List ℕ → Data → List ℕ
reference_text key d = text_or_empty (option_and_then (get key) (get (codes "roleRef") d))

abbrev pub is_role : Data → Bool
is_role d = bytes_eq (kind_of d) (codes "Role") || bytes_eq (kind_of d) (codes "ClusterRole")

abbrev pub is_binding : Data → Bool
is_binding d = bytes_eq (kind_of d) (codes "RoleBinding") || bytes_eq (kind_of d) (codes "ClusterRoleBinding")

-- a role's own key
abbrev pub own_key : Data → List ℕ
own_key d = role_key (kind_of d) (home_of (kind_of d) (metadata_text (codes "namespace") d)) (metadata_text (codes "name") d)

-- the key of the role that a binding names
abbrev pub named_key : Data → List ℕ
named_key d =
    role_key (reference_text (codes "kind") d) (home_of (reference_text (codes "kind") d) (metadata_text (codes "namespace") d)) (reference_text (codes "name") d)

-- the keys with that of an object, if it is a role
abbrev pub with_role : Names → Data → Origin → Names
with_role keys d origin = if is_role d then with_name keys (own_key d) origin else keys

-- the keys with those of the roles among objects
unfoldable pub with_roles : Names → List Manifest → Names
with_roles keys [] = keys
with_roles keys (m ∷ ms) = with_roles (with_role keys (view m.object) m.origin) ms

-- the object is a binding to a role of none of these keys
abbrev pub is_dangling : Names → Data → Bool
is_dangling keys d = is_binding d && not (has keys (named_key d))

-- where the bindings begin whose role is of none of these keys
abbrev pub dangling_if : Names → Manifest → List Origin
dangling_if keys m = if is_dangling keys (view m.object) then m.origin ∷ [] else []

-- where the bindings begin whose role is neither among the objects nor among these others
abbrev pub dangling : List Manifest → List Manifest → List Origin
dangling others objects = flat_map (dangling_if (with_roles (with_roles [] others) objects)) objects

-- where a binding begins
abbrev pub origin_of : Dangling → Origin
origin_of d = d.origin
