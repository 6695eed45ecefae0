-- Objects as they are admitted, and stores whose roles and bindings have no faults.
use Rattle.std.specs.Prelude.{◌≡◌, List, [], ◌∷◌, Option, Some, None, codes}
use Rattle.serde_json.specs.Data.{Data, string}
use Rattle.serde_json.specs.Find.{get}
use Rattle.kapi_model.specs.declared.row.ResourceRow.{ResourceRow}
use Rattle.kapi_model.specs.declared.row.Schema.{Schema}
use Rattle.kapi_model.specs.declared.row.Schema.TheVariants as schema
use Rattle.kapi_object.specs.Admission.{faults_on, version_of}
use Rattle.kapi_store.specs.declared.key.Key.{Key}
use Rattle.kapi_escalation.specs.Kind.{policy_kind}
use Rattle.kapi_escalation.specs.declared.kind.PolicyKind.{PolicyKind}
use Rattle.kapi_escalation.specs.declared.kind.PolicyKind.TheVariants as kind

-- a tree is an object of the resource type: of its kind and version, and without faults
pub record IsObjectOf (row : ResourceRow) (tree : Data) : Type 0 where
  pub kind : get (codes "kind") tree ≡ Some (string row.kind)
  pub version : get (codes "apiVersion") tree ≡ Some (string (version_of row))
  pub clean : faults_on row.schema tree ≡ []

-- the schema of the objects of a kind
abbrev pub schema_of : PolicyKind → Schema
schema_of kind.Role = schema.Role
schema_of kind.RoleBinding = schema.RoleBinding
schema_of kind.ClusterRole = schema.ClusterRole
schema_of kind.ClusterRoleBinding = schema.ClusterRoleBinding

-- a tree has no faults at the place of an object of the kind; at any other place nothing is required of it
abbrev pub IsSoundAt : Option PolicyKind → Data → Type 0
IsSoundAt None tree = Unit {0}
IsSoundAt (Some of) tree = faults_on (schema_of of) tree ≡ []

-- no role and no binding among the objects has faults
unfoldable pub AreSound : List (Key × Data) → Type 0
AreSound [] = Unit {0}
AreSound (e ∷ os) = IsSoundAt (policy_kind e.0) e.1 × AreSound os
