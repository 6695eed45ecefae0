-- The kinds of roles, of subjects and of a selector's requirements, as objects write them.
use Rattle.std.specs.Prelude.{ℕ, List, Option, Some, None, codes, if◌then◌else◌}
use Rattle.std.specs.Str.{bytes_eq}
use Rattle.kapi_model.specs.declared.kinds.RoleKind.{RoleKind}
use Rattle.kapi_model.specs.declared.kinds.RoleKind.TheVariants as role
use Rattle.kapi_model.specs.declared.kinds.SubjectKind.{SubjectKind}
use Rattle.kapi_model.specs.declared.kinds.SubjectKind.TheVariants as subject
use Rattle.kapi_model.specs.declared.selector.Operator.{Operator}
use Rattle.kapi_model.specs.declared.selector.Operator.TheVariants as operator

-- the API group of roles and bindings
abbrev pub rbac_group : List ℕ
rbac_group = codes "rbac.authorization.k8s.io"

-- a kind of roles, as objects write it
abbrev pub role_kind_text : RoleKind → List ℕ
role_kind_text role.Role = codes "Role"
role_kind_text role.ClusterRole = codes "ClusterRole"

-- the kind of roles that a text names, if any
abbrev pub role_kind : List ℕ → Option RoleKind
role_kind text =
    if bytes_eq text (codes "Role") then Some role.Role
    else (if bytes_eq text (codes "ClusterRole") then Some role.ClusterRole
    else None)

-- a kind of subjects, as objects write it
abbrev pub subject_kind_text : SubjectKind → List ℕ
subject_kind_text subject.User = codes "User"
subject_kind_text subject.Group = codes "Group"
subject_kind_text subject.ServiceAccount = codes "ServiceAccount"

-- the kind of subjects that a text names, if any
abbrev pub subject_kind : List ℕ → Option SubjectKind
subject_kind text =
    if bytes_eq text (codes "User") then Some subject.User
    else (if bytes_eq text (codes "Group") then Some subject.Group
    else (if bytes_eq text (codes "ServiceAccount") then Some subject.ServiceAccount
    else None))

-- an operator, as objects write it (Kubernetes, 'Labels and Selectors'; API, `LabelSelectorRequirement` of meta/v1)
abbrev pub operator_text : Operator → List ℕ
operator_text operator.In = codes "In"
operator_text operator.NotIn = codes "NotIn"
operator_text operator.Exists = codes "Exists"
operator_text operator.DoesNotExist = codes "DoesNotExist"

-- the operator that a text names, if any
abbrev pub operator_of : List ℕ → Option Operator
operator_of text =
    if bytes_eq text (codes "In") then Some operator.In
    else (if bytes_eq text (codes "NotIn") then Some operator.NotIn
    else (if bytes_eq text (codes "Exists") then Some operator.Exists
    else (if bytes_eq text (codes "DoesNotExist") then Some operator.DoesNotExist
    else None)))
