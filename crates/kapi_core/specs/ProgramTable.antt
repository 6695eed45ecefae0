-- The resources that the programs serve (Kubernetes API, v1, apps/v1, rbac.authorization.k8s.io/v1 and
-- authorization.k8s.io/v1).
use Rattle.std.specs.Prelude.{ℕ, Bool, true, false, List, [], ◌∷◌, ◌++◌, codes}
use Rattle.kapi_model.specs.declared.row.ResourceRow.{ResourceRow}
use Rattle.kapi_model.specs.declared.row.Schema.TheVariants as schema
use Rattle.kapi_core.specs.Table.{required_rows, v1_row}

-- a resource of a group with any members
abbrev pub open_row : List ℕ → List ℕ → List ℕ → Bool → Bool → ResourceRow
open_row group plural kind namespaced has_status = v1_row group plural kind namespaced has_status schema.Open

-- the resources that the programs serve beside the required ones of each table
unfoldable pub open_rows : List ResourceRow
open_rows =
    open_row [] (codes "nodes") (codes "Node") false true
    ∷ open_row [] (codes "configmaps") (codes "ConfigMap") true false
    ∷ open_row [] (codes "secrets") (codes "Secret") true false
    ∷ open_row [] (codes "serviceaccounts") (codes "ServiceAccount") true false
    ∷ open_row [] (codes "pods") (codes "Pod") true true
    ∷ open_row (codes "apps") (codes "deployments") (codes "Deployment") true true
    ∷ []

-- all resources that the programs serve
unfoldable pub program_rows : List ResourceRow
program_rows = required_rows ++ open_rows
