-- The cells of rows.
use Rattle.std.specs.Prelude.{ℕ, ◌==◌, Bool, if◌then◌else◌, List, [], ◌∷◌, ◌++◌, length, codes, decimal}
use Rattle.std.specs.List.{flat_map, list_any}
use Rattle.kapi_model.specs.Kinds.{role_kind_text}
use Rattle.kapi_model.specs.declared.policy_rule.PolicyRule.{PolicyRule}
use Rattle.kapi_model.specs.declared.role_ref.RoleRef.{RoleRef}
use Rattle.kapi_policy.specs.Decided.{Binding}
use Rattle.kapi_policy.specs.declared.decision.BindingKind.{BindingKind}
use Rattle.kapi_policy.specs.declared.decision.BindingKind.TheVariants as kind
use Rattle.kapi_access.specs.Questions.{after, before}
use Rattle.kapi_access.specs.declared.grantee.Grantee.{Grantee}
use Rattle.kapi_access.specs.declared.grantee.Grantee.TheVariants as grantee

-- ---- their words

-- the kind of a subject
abbrev pub subject_kind : Grantee → List ℕ
subject_kind (grantee.User name) = codes "User"
subject_kind (grantee.Group name) = codes "Group"

-- the name of a subject
abbrev pub subject_name : Grantee → List ℕ
subject_name (grantee.User name) = name
subject_name (grantee.Group name) = name

-- the kind of a binding
abbrev pub binding_kind : BindingKind → List ℕ
binding_kind kind.RoleBinding = codes "RoleBinding"
binding_kind kind.ClusterRoleBinding = codes "ClusterRoleBinding"

-- a kind and a name
abbrev pub joined : List ℕ → List ℕ → List ℕ
joined kind name = kind ++ (codes " " ++ name)

-- a user or group
abbrev pub subject_text : Grantee → List ℕ
subject_text to = joined (subject_kind to) (subject_name to)

-- a namespace, or `*` for all of them
abbrev pub namespace_text : List ℕ → List ℕ
namespace_text namespace = if length namespace == 0 then codes "*" else namespace

-- a binding
abbrev pub binding_text : Binding → List ℕ
binding_text b = joined (binding_kind b.kind) b.name

-- a rule of a role, by its index
abbrev pub rule_text : RoleRef → ℕ → List ℕ
rule_text role rule = role_kind_text role.kind ++ (codes " " ++ (role.name ++ (codes ", rule " ++ decimal rule)))

-- a rule of the role of a binding of that kind and name
abbrev pub text_of_grant : BindingKind → List ℕ → RoleRef → ℕ → List ℕ
text_of_grant kind name role rule = binding_kind kind ++ (codes " " ++ (name ++ (codes ", " ++ rule_text role rule)))

-- a rule of the role of a binding
abbrev pub by_text : Binding → ℕ → List ℕ
by_text b rule = text_of_grant b.kind b.name b.role rule

-- ---- rules

-- each text behind a comma
abbrev pub behind_commas : List (List ℕ) → List ℕ
behind_commas texts = flat_map (λ t. 44 ∷ t) texts

-- a list without the comma in front of its first text; `-` if it is empty
abbrev pub without_comma : List ℕ → List ℕ
without_comma [] = codes "-"
without_comma (b ∷ text) = text

-- texts with commas between
abbrev pub listed : List (List ℕ) → List ℕ
listed texts = without_comma (behind_commas texts)

-- a resource of a group as kubectl prints it: `deployments.apps/scale`
abbrev pub in_group : List ℕ → List ℕ → List ℕ
in_group group resource =
    if length group == 0 then resource
    else before 47 resource ++ (46 ∷ (group ++ (if list_any (λ b. b == 47) resource then 47 ∷ after 47 resource else [])))

-- the resources of a group
abbrev pub resources_of : List (List ℕ) → List ℕ → List ℕ
resources_of resources group = flat_map (λ r. 44 ∷ in_group group r) resources

-- the resources of a rule in each of its groups, and its URLs
abbrev pub targets : PolicyRule → List ℕ
targets rule = flat_map (resources_of rule.resources) rule.api_groups ++ behind_commas rule.non_resource_urls

-- the names of resources, if a rule lists some
abbrev pub named : List (List ℕ) → List ℕ
named [] = []
named (n ∷ names) = codes " names " ++ listed (n ∷ names)

-- a rule: `get deployments.apps names web`
abbrev pub words_of_rule : PolicyRule → List ℕ
words_of_rule r = listed r.verbs ++ (32 ∷ (without_comma (targets r) ++ named r.resource_names))

-- the mark of a rule that gives much
abbrev pub mark : Bool → List ℕ
mark grave = if grave then codes "! " else []
