-- The machine as it begins: with the opening objects, each made by the creation that makes all others, and no
-- connection.
use Rattle.std.specs.Prelude.{◌≡◌, ℕ, ◌+◌, false, List, [], ◌∷◌, codes, Result, Ok, Err}
use Rattle.std.specs.List.{fold}
use Rattle.std.specs.Map.{keys_of}
use Rattle.serde_json.specs.Data.{Data}
use Rattle.kapi_object.specs.Admission.{BodyFault, object_of}
use Rattle.kapi_model.specs.declared.row.ResourceRow.{ResourceRow}
use Rattle.kapi_store.specs.Faults.{StoreFault}
use Rattle.kapi_store.specs.Plain.{PlainChange, creation, opened}
use Rattle.kapi_store.specs.declared.key.Key.{Key}
use Rattle.kapi_core.specs.Machine.{Machine, changed}
use Rattle.kapi_core.specs.Table.{namespaces_row, cluster_roles_row, cluster_role_bindings_row}

-- the place of an object of a resource type that is in no namespace
abbrev pub cluster_key : ResourceRow → List ℕ → Key
cluster_key row name = record { group = row.group; resource = row.plural; namespace = []; name = name }

-- the machine after a creation, if it is not refused
abbrev pub written_if : Machine → Result (List PlainChange) StoreFault → Machine
written_if m (Ok changes) = changed changes m
written_if m (Err fault) = m

-- the machine after the creation of what a body is read as, if it is an object
abbrev pub created_if : Machine → Key → Result Data BodyFault → Machine
created_if m key (Ok tree) = written_if m (creation m.store key tree)
created_if m key (Err fault) = m

-- an object that every machine begins with: of a resource type, a name and a body
pub record OpeningObject : Type 0 where
  pub row : ResourceRow
  pub name : List ℕ
  pub body : List ℕ

-- the machine with one opening object more
unfoldable pub with_opening : Machine → OpeningObject → Machine
with_opening m o = created_if m (cluster_key o.row o.name) (object_of o.row o.body)

-- the namespace `default`
abbrev pub default_namespace : OpeningObject
default_namespace = record { row = namespaces_row; name = codes "default"; body = codes "{\"metadata\":{\"name\":\"default\"}}" }

-- the role by which everything may be done (Kubernetes, 'Using RBAC Authorization', user-facing roles)
abbrev pub cluster_admin : OpeningObject
cluster_admin = record {
  row = cluster_roles_row;
  name = codes "cluster-admin";
  body = codes "{\"metadata\":{\"name\":\"cluster-admin\"},\"rules\":[{\"apiGroups\":[\"*\"],\"resources\":[\"*\"],\"verbs\":[\"*\"]},{\"nonResourceURLs\":[\"*\"],\"verbs\":[\"*\"]}]}";
}

-- the role by which users may review their own access (the same page, API discovery roles)
abbrev pub basic_user : OpeningObject
basic_user = record {
  row = cluster_roles_row;
  name = codes "system:basic-user";
  body = codes "{\"metadata\":{\"name\":\"system:basic-user\"},\"rules\":[{\"apiGroups\":[\"authorization.k8s.io\"],\"resources\":[\"selfsubjectaccessreviews\",\"selfsubjectrulesreviews\"],\"verbs\":[\"create\"]}]}";
}

-- the group system:masters has the role cluster-admin
abbrev pub cluster_admin_binding : OpeningObject
cluster_admin_binding = record {
  row = cluster_role_bindings_row;
  name = codes "cluster-admin";
  body = codes "{\"metadata\":{\"name\":\"cluster-admin\"},\"roleRef\":{\"apiGroup\":\"rbac.authorization.k8s.io\",\"kind\":\"ClusterRole\",\"name\":\"cluster-admin\"},\"subjects\":[{\"apiGroup\":\"rbac.authorization.k8s.io\",\"kind\":\"Group\",\"name\":\"system:masters\"}]}";
}

-- the group system:authenticated has the role system:basic-user
abbrev pub basic_user_binding : OpeningObject
basic_user_binding = record {
  row = cluster_role_bindings_row;
  name = codes "system:basic-user";
  body = codes "{\"metadata\":{\"name\":\"system:basic-user\"},\"roleRef\":{\"apiGroup\":\"rbac.authorization.k8s.io\",\"kind\":\"ClusterRole\",\"name\":\"system:basic-user\"},\"subjects\":[{\"apiGroup\":\"rbac.authorization.k8s.io\",\"kind\":\"Group\",\"name\":\"system:authenticated\"}]}";
}

-- the five objects that every machine begins with, in their order
unfoldable pub opening_objects : List OpeningObject
opening_objects = default_namespace ∷ cluster_admin ∷ basic_user ∷ cluster_admin_binding ∷ basic_user_binding ∷ []

-- a machine without objects and connections, which checks the rights of a watch at its start alone
abbrev pub empty : List ResourceRow → ℕ → Machine
empty table first = record { store = opened table first; changes = []; next_id = 0; links = []; rechecks = false }

-- the machine as it begins: the opening objects, at the five revisions after the first, and no connection
unfoldable pub opening : List ResourceRow → ℕ → Machine
opening table first = fold with_opening (empty table first) opening_objects

-- the places of the opening objects, in the order of keys
unfoldable pub opening_keys : List Key
opening_keys =
    cluster_key namespaces_row (codes "default")
    ∷ cluster_key cluster_role_bindings_row (codes "cluster-admin")
    ∷ cluster_key cluster_role_bindings_row (codes "system:basic-user")
    ∷ cluster_key cluster_roles_row (codes "cluster-admin")
    ∷ cluster_key cluster_roles_row (codes "system:basic-user")
    ∷ []

-- all five opening objects are stored, and took the five revisions after the first
pub record Standing (table : List ResourceRow) (first : ℕ) : Type 0 where
  pub objects : keys_of (opening table first).store.objects ≡ opening_keys
  pub revision : (opening table first).store.revision ≡ first + 5
