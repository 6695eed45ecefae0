-- What the tree of a role or a binding is read as (Kubernetes API, rbac.authorization.k8s.io/v1).
use Rattle.std.specs.Prelude.{List, length, ◌==◌, if◌then◌else◌, Option, Some, None, Result, Ok, Err}
use Rattle.serde_json.specs.Data.{Data}
use Rattle.kapi_model.specs.declared.fault.FieldFault.{FieldFault}
use Rattle.kapi_model.specs.declared.row.Schema.{Schema}
use Rattle.kapi_object.specs.Contents.{aggregation_in, role_ref_of, rules_of, subjects_of}
use Rattle.kapi_object.specs.Admission.{faults_on}
use Rattle.kapi_model.specs.declared.binding.ClusterRoleBinding.{ClusterRoleBinding}
use Rattle.kapi_model.specs.declared.binding.RoleBinding.{RoleBinding}
use Rattle.kapi_rbac_types.specs.declared.read_fault.ReadFault.{ReadFault}
use Rattle.kapi_rbac_types.specs.declared.read_fault.ReadFault.TheVariants.{Invalid, Memory}
use Rattle.kapi_model.specs.declared.role.ClusterRole.{ClusterRole}
use Rattle.kapi_model.specs.declared.role.Role.{Role}

-- the role that a tree is read as: its rules
abbrev pub role_of : Data → Role
role_of tree = record { rules = rules_of tree }

-- the cluster role that a tree is read as: its aggregation rule, if it has one, and its rules
abbrev pub cluster_role_of : Data → ClusterRole
cluster_role_of tree = record { aggregation_rule = aggregation_in tree; rules = rules_of tree }

-- the role binding that a tree is read as: its subjects and its reference to a role
abbrev pub role_binding_of : Data → RoleBinding
role_binding_of tree = record { subjects = subjects_of tree; role_ref = role_ref_of tree }

-- the cluster role binding that a tree is read as: its subjects and its reference to a role
abbrev pub cluster_role_binding_of : Data → ClusterRoleBinding
cluster_role_binding_of tree = record { subjects = subjects_of tree; role_ref = role_ref_of tree }

-- what a tree is read as, or what is wrong with it for a resource type with this schema
unfoldable pub read_as : {X : Type 0} → Schema → (Data → X) → Data → Result X (List FieldFault)
read_as schema f tree = if length (faults_on schema tree) == 0 then Ok (f tree) else Err (faults_on schema tree)

-- the faults that an error reports; running out of memory is none
abbrev pub told : ReadFault → Option (List FieldFault)
told (Invalid faults) = Some faults
told Memory = None
