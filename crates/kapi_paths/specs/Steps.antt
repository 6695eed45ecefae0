-- Who can become whom in one step.
use Rattle.std.specs.Prelude.{ℕ, ◌==◌, Bool, true, ◌&&◌, ◌||◌, if◌then◌else◌, List, [], ◌∷◌, ◌++◌, length, map, codes}
use Rattle.std.specs.List.{flat_map, list_any}
use Rattle.std.specs.Option.{unwrap_or}
use Rattle.std.specs.Str.{bytes_eq}
use Rattle.kapi_model.specs.declared.identity.Identity.{Identity}
use Rattle.kapi_model.specs.declared.kinds.RoleKind.{RoleKind}
use Rattle.kapi_model.specs.declared.kinds.RoleKind.TheVariants as role_kind
use Rattle.kapi_model.specs.declared.policy_rule.PolicyRule.{PolicyRule}
use Rattle.kapi_model.specs.declared.subject.Subject.{Subject}
use Rattle.kapi_model.specs.declared.subject.Subject.TheVariants as subject
use Rattle.kapi_model.specs.Identities.{is_master}
use Rattle.kapi_model.specs.Subjects.{account_user, namespace_of, subject_matches}
use Rattle.kapi_rules.specs.Entries.{names_match, resource_matches, word_matches}
use Rattle.kapi_policy.specs.Decided.{Binding, rules_of}
use Rattle.kapi_policy.specs.Objects.{PolicyObjects}
use Rattle.kapi_policy.specs.declared.change.NamespacedName.{NamespacedName}
use Rattle.kapi_escalation.specs.Impersonation.{own_groups, service_account}
use Rattle.kapi_paths.specs.declared.node.Node.{Node}
use Rattle.kapi_paths.specs.declared.node.NodeKind.{NodeKind}
use Rattle.kapi_paths.specs.declared.node.NodeKind.TheVariants as kind
use Rattle.kapi_paths.specs.declared.steps.Known.{Known}
use Rattle.kapi_paths.specs.declared.right.Leads.{Leads}
use Rattle.kapi_paths.specs.declared.right.Leads.TheVariants as leads
use Rattle.kapi_paths.specs.declared.right.Names.{Names}
use Rattle.kapi_paths.specs.declared.right.Names.TheVariants as names
use Rattle.kapi_paths.specs.Rights.{Row}

-- ---- nodes

abbrev pub node : NodeKind → List ℕ → List ℕ → Node
node kind place name = record { kind = kind; place = place; name = name }

abbrev pub everything : Node
everything = node kind.Everything [] []

-- many at once in a namespace
abbrev pub many : NodeKind → List ℕ → List Node
many kind place = node kind place [] ∷ []

-- the same in each of the namespaces
abbrev pub each_space : NodeKind → List (List ℕ) → List Node
each_space kind places = flat_map (many kind) places

-- those of the names in a namespace
abbrev pub named : NodeKind → List (List ℕ) → List ℕ → List Node
named kind names place = map (node kind place) names

-- the same in the namespace, or in each that is known if it is empty
abbrev pub in_each : Known → NodeKind → List (List ℕ) → List ℕ → List Node
in_each known kind names place =
    if length place == 0 then flat_map (named kind names) known.namespaces else named kind names place

-- who a subject of a binding in the namespace is
abbrev pub who_is : List ℕ → Subject → Node
who_is namespace (subject.User name) = node kind.User [] name
who_is namespace (subject.Group name) = node kind.Group [] name
who_is namespace (subject.ServiceAccount a) = node kind.Account (namespace_of a namespace) a.name

-- ---- identities

-- the groups that a user has by itself (Kubernetes, 'Authenticating', 'Anonymous requests'; 'Managing Service Accounts')
abbrev pub usual_groups : List ℕ → List (List ℕ)
usual_groups user =
    if bytes_eq user (codes "system:anonymous") then codes "system:unauthenticated" ∷ []
    else own_groups (service_account user) ++ codes "system:authenticated" ∷ []

-- a user in the groups that it has by itself
abbrev pub user_alone : List ℕ → Identity
user_alone user = record { user = user; groups = usual_groups user }

-- a service account in the groups that it has by itself
unfoldable pub account_alone : List ℕ → List ℕ → Identity
account_alone namespace name = user_alone (account_user namespace name)

-- another user in the group; the group of those without credentials has the anonymous user alone
abbrev pub member_of : List ℕ → Identity
member_of group =
    if bytes_eq group (codes "system:unauthenticated") then user_alone (codes "system:anonymous")
    else record { user = []; groups = group ∷ codes "system:authenticated" ∷ [] }

-- the identity of a user, group or account, and of any other node that of nobody
abbrev pub identity_of : NodeKind → List ℕ → List ℕ → Identity
identity_of kind.User place name = user_alone name
identity_of kind.Group place name = member_of name
identity_of kind.Account place name = account_alone place name
identity_of other place name = user_alone []

-- ---- what a role leads to

-- the names of a rule have one for which the right is asked
abbrev pub are_asked : Names → List (List ℕ) → Bool
are_asked names.Unnamed listed = names_match listed []
are_asked names.Any listed = true
are_asked names.Signer listed =
    names_match listed (codes "kubernetes.io/kube-apiserver-client") || names_match listed (codes "kubernetes.io/*")

-- the rule has the right
abbrev pub has_right : Row → PolicyRule → Bool
has_right row rule =
    list_any (λ e. word_matches e row.verb) rule.verbs
    && (list_any (λ e. word_matches e row.group) rule.api_groups
    && (list_any (λ e. resource_matches e row.resource row.subresource) rule.resources && are_asked row.names rule.resource_names))

-- the nodes, if they are asked for cluster-wide
abbrev pub if_wide : List ℕ → List Node → List Node
if_wide place nodes = if length place == 0 then nodes else []

-- the first without names, else the others
abbrev pub by_names : List (List ℕ) → List Node → List Node → List Node
by_names listed all some = if length listed == 0 then all else some

-- what all in a namespace is, with everything if the namespace is empty
abbrev pub all_there : List ℕ → List Node
all_there place = if length place == 0 then everything ∷ [] else many kind.All place

-- what the namespace of that name asks of its pods, or cluster-wide each of the names
abbrev pub limits_of : List ℕ → List (List ℕ) → List Node
limits_of place listed = if names_match listed place then many kind.Limits place else if_wide place (each_space kind.Limits listed)

-- whom a right leads to in a namespace, by the names that the rule lists
abbrev pub led_to : Known → Leads → List ℕ → List (List ℕ) → List Node
led_to known leads.Everything place listed = if_wide place (everything ∷ [])
led_to known leads.All place listed = many kind.All place
led_to known leads.Accounts place listed = many kind.Accounts place
led_to known leads.NamedLimits place listed = limits_of place listed
led_to known leads.NamedAccounts place listed = by_names listed (many kind.Accounts place) (in_each known kind.Account listed place)
led_to known leads.NamedUsers place listed = if_wide place (by_names listed (many kind.EveryUser []) (named kind.User listed []))
led_to known leads.NamedGroups place listed = if_wide place (by_names listed (everything ∷ []) (named kind.Group listed []))
led_to known leads.NamedRoles place listed = by_names listed (many kind.All place) (in_each known kind.Role listed place)
led_to known leads.NamedClusterRoles place listed = by_names listed (all_there place) (named kind.ClusterRole listed place)

-- whom a rule that has the right leads to
unfoldable pub by_right : Known → List ℕ → PolicyRule → Row → List Node
by_right known place rule row = if has_right row rule then led_to known row.leads place rule.resource_names else []

-- whom the rules of a role in a namespace lead to
unfoldable pub by_rules : Known → List Row → List ℕ → List PolicyRule → List Node
by_rules known rows place rules = flat_map (λ rule. flat_map (by_right known place rule) rows) rules

-- whom the role of that name leads to
unfoldable pub by_role : PolicyObjects → Known → List Row → RoleKind → List ℕ → List ℕ → List Node
by_role objects known rows role_kind place name = by_rules known rows place (unwrap_or (rules_of objects (record { kind = role_kind; name = name }) place) [])

-- ---- steps

-- the kind of a node that holds a role of the kind
abbrev pub held_kind : RoleKind → NodeKind
held_kind role_kind.Role = kind.Role
held_kind role_kind.ClusterRole = kind.ClusterRole

-- the role that a binding gives the identity
abbrev pub bound : Identity → Binding → List Node
bound identity b =
    if list_any (λ s. subject_matches s b.namespace identity) b.subjects then node (held_kind b.role.kind) b.namespace b.role.name ∷ [] else []

-- what an identity becomes by bindings; masters may do everything
unfoldable pub by_bindings : List Binding → Identity → List Node
by_bindings bindings identity = (if is_master identity then everything ∷ [] else []) ++ flat_map (bound identity) bindings

-- the account, if it is one of the namespace
abbrev pub account_in : List ℕ → NamespacedName → List Node
account_in place a = if bytes_eq a.namespace place then node kind.Account place a.name ∷ [] else []

-- the known accounts of the namespace
abbrev pub accounts_in : Known → List ℕ → List Node
accounts_in known place = flat_map (account_in place) known.accounts

-- all accounts of the namespace
abbrev pub all_accounts : Known → List ℕ → List Node
all_accounts known place = if length place == 0 then each_space kind.Accounts known.namespaces else accounts_in known place

-- all in the namespace
abbrev pub all_in : Known → List ℕ → List Node
all_in known place = if length place == 0 then each_space kind.All known.namespaces else many kind.Accounts place ++ many kind.Limits place

-- whom one can become in a step
unfoldable pub next : PolicyObjects → List Binding → Known → List Row → NodeKind → List ℕ → List ℕ → List Node
next objects bindings known rows kind.Everything place name = []
next objects bindings known rows kind.Limits place name = []
next objects bindings known rows kind.EveryUser place name = named kind.User known.users []
next objects bindings known rows kind.All place name = all_in known place
next objects bindings known rows kind.Accounts place name = all_accounts known place
next objects bindings known rows kind.User place name = by_bindings bindings (user_alone name)
next objects bindings known rows kind.Group place name = by_bindings bindings (member_of name)
next objects bindings known rows kind.Account place name = by_bindings bindings (account_alone place name)
next objects bindings known rows kind.Role place name = by_role objects known rows role_kind.Role place name
next objects bindings known rows kind.ClusterRole place name = by_role objects known rows role_kind.ClusterRole place name
