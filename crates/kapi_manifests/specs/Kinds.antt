-- What an object says of itself, and what it is to a policy.
use Rattle.std.specs.Prelude.{ℕ, nat_eq, ◌||◌, ◌&&◌, not, Bool, if◌then◌else◌, List, [], ◌∷◌, ◌++◌, ◌==◌, codes, Option, Some, option_and_then}
use Rattle.std.specs.List.{before_first, list_any, starts_with}
use Rattle.std.specs.Str.{bytes_eq, str_eq_ignore_ascii_case}
use Rattle.serde_json.specs.Data.{Data, Members, member, no_members, object, string}
use Rattle.serde_json.specs.Find.{get}
use Rattle.kapi_model.specs.declared.row.ResourceRow.{ResourceRow}

-- the text that a value is; empty if it is none
abbrev pub text_or_empty : Option Data → List ℕ
text_or_empty (Some (string s)) = s
text_or_empty _ = codes ""

-- the text at a key
abbrev pub text_at : List ℕ → Data → List ℕ
text_at key d = text_or_empty (get key d)

-- the text at a key of the metadata
abbrev pub metadata_text : List ℕ → Data → List ℕ
metadata_text key d = text_or_empty (option_and_then (get key) (get (codes "metadata") d))

abbrev pub kind_of : Data → List ℕ
kind_of d = text_at (codes "kind") d

abbrev pub version_of : Data → List ℕ
version_of d = text_at (codes "apiVersion") d

-- the four kinds of Kubernetes' roles and bindings ('Using RBAC Authorization')
abbrev pub is_policy_kind : List ℕ → Bool
is_policy_kind kind =
    bytes_eq kind (codes "Role") || (bytes_eq kind (codes "RoleBinding")
    || (bytes_eq kind (codes "ClusterRole") || bytes_eq kind (codes "ClusterRoleBinding")))

-- the version is of the group of roles and bindings
unfoldable pub is_policy_version : List ℕ → Bool
is_policy_version version = starts_with nat_eq version (codes "rbac.authorization.k8s.io")

-- the object says something about policy: it is of the group of roles and bindings, or its kind is named as one of them
abbrev pub is_policy : Data → Bool
is_policy d = is_policy_version (version_of d) || is_policy_kind (kind_of d)

abbrev pub is_namespace : Data → Bool
is_namespace d = bytes_eq (kind_of d) (codes "Namespace") && bytes_eq (version_of d) (codes "v1")

-- the API group of a version: what stands before its slash; empty, the core group, without one (Kubernetes, 'API Overview')
unfoldable pub group_of : List ℕ → List ℕ
group_of version = if list_any (λ b. b == 47) version then before_first (λ b. b == 47) version else codes ""

-- the resource type is of that group and kind, and its objects live in namespaces
abbrev pub is_namespaced : List ℕ → List ℕ → ResourceRow → Bool
is_namespaced group kind row = row.namespaced && (bytes_eq row.kind kind && bytes_eq row.group group)

-- objects of the group and the kind of this one live in a namespace, by a table of resource types
abbrev pub lives_in_namespace : List ResourceRow → Data → Bool
lives_in_namespace table d = list_any (is_namespaced (group_of (version_of d)) (kind_of d)) table

-- the kind of the items of a document that name no kind: that of a list without `List`, for lists of namespaces,
-- definitions of kinds, roles or bindings (apimachinery, `UnstructuredJSONScheme`); empty for other documents
abbrev pub item_kind : List ℕ → List ℕ
item_kind kind =
    if bytes_eq kind (codes "NamespaceList") || bytes_eq kind (codes "Namespace") then codes "Namespace"
    else (if bytes_eq kind (codes "CustomResourceDefinitionList") then codes "CustomResourceDefinition"
    else (if bytes_eq kind (codes "RoleList") || bytes_eq kind (codes "Role") then codes "Role"
    else (if bytes_eq kind (codes "RoleBindingList") || bytes_eq kind (codes "RoleBinding") then codes "RoleBinding"
    else (if bytes_eq kind (codes "ClusterRoleList") || bytes_eq kind (codes "ClusterRole") then codes "ClusterRole"
    else (if bytes_eq kind (codes "ClusterRoleBindingList") || bytes_eq kind (codes "ClusterRoleBinding") then codes "ClusterRoleBinding"
    else codes "")))))

-- the names of members
abbrev pub names_of : Members → List (List ℕ)
names_of no_members = []
names_of (member name d ms) = name ∷ names_of ms

-- the name differs from `items` in the case of letters alone, or by a long s: some readers take it for that (Go, encoding/json)
abbrev pub is_like_items : List ℕ → Bool
is_like_items name =
    not (bytes_eq name (codes "items"))
    && (str_eq_ignore_ascii_case name (codes "items") || str_eq_ignore_ascii_case name (codes "item" ++ 197 ∷ 191 ∷ []))

abbrev pub members_in : Data → Members
members_in (object ms) = ms
members_in _ = no_members

-- a member of the document has such a name
abbrev pub has_like_items : Data → Bool
has_like_items d = list_any is_like_items (names_of (members_in d))
