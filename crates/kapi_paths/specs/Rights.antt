-- The rights by which one becomes somebody else (Kubernetes, 'Role Based Access Control Good Practices', 'Privilege escalation
-- risks', which the sentences are from).
use Rattle.std.specs.Prelude.{ℕ, List, [], ◌∷◌, ◌++◌, map, Bool, not, ◌||◌, codes}
use Rattle.std.specs.List.{filter, flat_map, list_any}
use Rattle.std.specs.Str.{bytes_eq}
use Rattle.kapi_paths.specs.declared.right.Group.{Group as GroupOfCode}
use Rattle.kapi_paths.specs.declared.right.Leads.{Leads}
use Rattle.kapi_paths.specs.declared.right.Leads.TheVariants as leads
use Rattle.kapi_paths.specs.declared.right.Names.{Names}
use Rattle.kapi_paths.specs.declared.right.Names.TheVariants as names
use Rattle.kapi_paths.specs.declared.right.Resource.{Resource as ResourceOfCode}
use Rattle.kapi_paths.specs.declared.right.Right.{Right}

-- a right without its references
pub record Row : Type 0 where
  pub kind : List ℕ
  pub verb : List ℕ
  pub group : List ℕ
  pub resource : List ℕ
  pub subresource : List ℕ
  pub names : Names
  pub leads : Leads

abbrev pub row_of : Right → Row
row_of r = record { kind = r.0.now; verb = r.1.now; group = r.2.now; resource = r.3.now; subresource = r.4.now; names = r.5; leads = r.6 }

-- a resource of a group, with its subresource
pub record Resource : Type 0 where
  pub group : List ℕ
  pub resource : List ℕ
  pub subresource : List ℕ

abbrev pub resource_of : ResourceOfCode → Resource
resource_of r = record { group = r.0.now; resource = r.1.now; subresource = r.2.now }

-- rights of a kind: each of the verbs on each of the resources
pub record Group : Type 0 where
  pub kind : List ℕ
  pub verbs : List (List ℕ)
  pub resources : List Resource
  pub names : Names
  pub leads : Leads

abbrev pub group_of : GroupOfCode → Group
group_of g = record { kind = g.kind.now; verbs = map (λ v. v.now) g.verbs.now; resources = map resource_of g.resources.now; names = g.names; leads = g.leads }

-- the rights of the verbs on a resource
abbrev pub rows_on : Group → Resource → List Row
rows_on g r = map (λ v. record { kind = g.kind; verb = v; group = r.group; resource = r.resource; subresource = r.subresource; names = g.names; leads = g.leads }) g.verbs

-- the rights of a group, resource by resource
abbrev pub rows_of : Group → List Row
rows_of g = flat_map (rows_on g) g.resources

-- a resource of a group
abbrev pub plain : List ℕ → List ℕ → Resource
plain group resource = record { group = group; resource = resource; subresource = [] }

-- a subresource of the core group
abbrev pub part : List ℕ → List ℕ → Resource
part resource subresource = record { group = []; resource = resource; subresource = subresource }

abbrev pub group : List ℕ → List (List ℕ) → List Resource → Names → Leads → Group
group kind verbs resources names leads = record { kind = kind; verbs = verbs; resources = resources; names = names; leads = leads }

-- what makes pods
abbrev pub workloads : List Resource
workloads =
    plain [] (codes "pods")
    ∷ plain [] (codes "replicationcontrollers")
    ∷ plain (codes "apps") (codes "deployments")
    ∷ plain (codes "apps") (codes "replicasets")
    ∷ plain (codes "apps") (codes "statefulsets")
    ∷ plain (codes "apps") (codes "daemonsets")
    ∷ plain (codes "batch") (codes "jobs")
    ∷ plain (codes "batch") (codes "cronjobs")
    ∷ []

-- the rights that lead to all in a namespace or the cluster:
-- Whoever may do everything is everybody: the rule of `cluster-admin` ('User-facing roles').
-- 'Persistent volume creation': it "includes the creation of hostPath volumes", and so the files of every node.
-- 'Access to proxy subresource of Nodes': it allows "command execution on every pod on the node(s)".
-- 'Escalate verb': who has it "can effectively escalate their privileges".
-- 'Bind verb': it lets a user "create bindings to roles with rights they do not already have".
unfoldable pub cluster_groups : List Group
cluster_groups =
    group (codes "star") (codes "*" ∷ []) (plain (codes "*") (codes "*") ∷ []) names.Unnamed leads.All
    ∷ group (codes "star") (codes "*" ∷ []) (plain (codes "*") (codes "*") ∷ []) names.Unnamed leads.Everything
    ∷ group (codes "volumes") (codes "create" ∷ []) (plain [] (codes "persistentvolumes") ∷ []) names.Unnamed leads.Everything
    ∷ group (codes "nodes") (codes "create" ∷ codes "get" ∷ []) (part (codes "nodes") (codes "proxy") ∷ []) names.Any leads.Everything
    ∷ group (codes "escalate") (codes "escalate" ∷ []) (plain (codes "rbac.authorization.k8s.io") (codes "clusterroles") ∷ []) names.Any leads.Everything
    ∷ group (codes "escalate") (codes "escalate" ∷ []) (plain (codes "rbac.authorization.k8s.io") (codes "roles") ∷ []) names.Any leads.All
    ∷ group (codes "bind") (codes "bind" ∷ []) (plain (codes "rbac.authorization.k8s.io") (codes "clusterroles") ∷ []) names.Any leads.NamedClusterRoles
    ∷ group (codes "bind") (codes "bind" ∷ []) (plain (codes "rbac.authorization.k8s.io") (codes "roles") ∷ []) names.Any leads.NamedRoles
    ∷ []

-- the rights that lead to the accounts of a namespace:
-- 'Listing secrets': `get`, `list` and `watch` let a user "reveal the Secret contents", the tokens of accounts among them.
-- 'Workload creation': it "grants the API access levels of any service account in that namespace".
-- The same of a workload that is there: another account is put into its pods' template.
-- A command in a pod that runs has the token of its account.
unfoldable pub account_groups : List Group
account_groups =
    group (codes "secrets") (codes "get" ∷ codes "list" ∷ codes "watch" ∷ []) (plain [] (codes "secrets") ∷ []) names.Unnamed leads.Accounts
    ∷ group (codes "workloads") (codes "create" ∷ []) workloads names.Unnamed leads.Accounts
    ∷ group (codes "changes") (codes "update" ∷ codes "patch" ∷ []) workloads names.Any leads.Accounts
    ∷ group (codes "exec") (codes "create" ∷ codes "get" ∷ []) (part (codes "pods") (codes "exec") ∷ part (codes "pods") (codes "attach") ∷ []) names.Any leads.Accounts
    ∷ group (codes "exec") (codes "update" ∷ codes "patch" ∷ []) (part (codes "pods") (codes "ephemeralcontainers") ∷ []) names.Any leads.Accounts
    ∷ []

-- the rights that lead to others, by their names or by what they trust:
-- 'Impersonate verb': it lets a user "gain the rights of other users in the cluster".
-- 'Token request': `create` on it lets a user "create TokenRequests to issue tokens for existing service accounts".
-- 'CSRs and certificate issuing': it allows to "create new client certificates which allow users to authenticate to the cluster".
-- 'Control admission webhooks': they "can read any object admitted to the cluster", and change it.
-- 'Namespace modification': its labels may allow "a more permissive policy than intended by the administrators".
unfoldable pub person_groups : List Group
person_groups =
    group (codes "impersonate") (codes "impersonate" ∷ []) (plain [] (codes "users") ∷ []) names.Any leads.NamedUsers
    ∷ group (codes "impersonate") (codes "impersonate" ∷ []) (plain [] (codes "groups") ∷ []) names.Any leads.NamedGroups
    ∷ group (codes "impersonate") (codes "impersonate" ∷ []) (plain [] (codes "serviceaccounts") ∷ []) names.Any leads.NamedAccounts
    ∷ group (codes "tokens") (codes "create" ∷ []) (part (codes "serviceaccounts") (codes "token") ∷ []) names.Any leads.NamedAccounts
    ∷ group (codes "signers") (codes "approve" ∷ codes "sign" ∷ []) (plain (codes "certificates.k8s.io") (codes "signers") ∷ []) names.Signer leads.Everything
    ∷ group (codes "webhooks") (codes "create" ∷ codes "update" ∷ codes "patch" ∷ [])
    (plain (codes "admissionregistration.k8s.io") (codes "validatingwebhookconfigurations")
    ∷ plain (codes "admissionregistration.k8s.io") (codes "mutatingwebhookconfigurations") ∷ []) names.Any leads.Everything
    ∷ group (codes "namespaces") (codes "update" ∷ codes "patch" ∷ []) (plain [] (codes "namespaces") ∷ []) names.Any leads.NamedLimits
    ∷ []

-- the table
unfoldable pub groups : List Group
groups = cluster_groups ++ account_groups ++ person_groups

-- the rights are of that kind
abbrev pub is_of_kind : List ℕ → Group → Bool
is_of_kind word g = bytes_eq g.kind word

-- some rights of the table are of that kind
abbrev pub is_kind : List ℕ → Bool
is_kind word = list_any (is_of_kind word) cluster_groups || list_any (is_of_kind word) account_groups || list_any (is_of_kind word) person_groups

-- the rights are of no kind that is left out
abbrev pub is_kept : List (List ℕ) → Group → Bool
is_kept without g = not (list_any (λ w. bytes_eq w g.kind) without)

-- the rights of the table, but those of the kinds left out
abbrev pub rights_without : List (List ℕ) → List Row
rights_without without = flat_map rows_of (filter (is_kept without) groups)
