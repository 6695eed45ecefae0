-- The tables of roles, bindings and their parts: the members of an object and their values (Kubernetes API,
-- rbac.authorization.k8s.io/v1, and `LabelSelector` of meta/v1). Each row is a key and the part for it.
use Rattle.std.specs.Prelude.{ℕ, List, [], ◌∷◌, codes}
use Rattle.kapi_object.specs.declared.table.Choice.{Choice}
use Rattle.kapi_object.specs.declared.table.Choice.TheVariants.{One, Two, Three}
use Rattle.kapi_object.specs.declared.table.ValueRule.{ValueRule}
use Rattle.kapi_object.specs.declared.table.ValueRule.TheVariants as part
use Rattle.kapi_object.specs.declared.table.Row.{Row}
use Rattle.kapi_object.specs.declared.table.Table.{Table}
use Rattle.kapi_object.specs.declared.table.Table.TheVariants as table
use Rattle.kapi_object.specs.declared.table.When.{When}
use Rattle.kapi_object.specs.declared.table.When.TheVariants as when
use Rattle.kapi_object.specs.declared.table.Written.TheVariants as written
use Rattle.kapi_object.specs.declared.text_rule.TextRule.TheVariants as rule
use Rattle.kapi_object.specs.declared.typed_list.Presence.TheVariants as need
use Rattle.kapi_object.specs.declared.word.Word.{Word}
use Rattle.kapi_object.specs.declared.word.Word.TheVariants as word

-- a word as bodies have it
abbrev pub word_text : Word → List ℕ
word_text word.Rules = codes "rules"
word_text word.AggregationRule = codes "aggregationRule"
word_text word.RoleRef = codes "roleRef"
word_text word.Subjects = codes "subjects"
word_text word.Verbs = codes "verbs"
word_text word.ApiGroups = codes "apiGroups"
word_text word.Resources = codes "resources"
word_text word.ResourceNames = codes "resourceNames"
word_text word.NonResourceUrls = codes "nonResourceURLs"
word_text word.ClusterRoleSelectors = codes "clusterRoleSelectors"
word_text word.MatchLabels = codes "matchLabels"
word_text word.MatchExpressions = codes "matchExpressions"
word_text word.Key = codes "key"
word_text word.Operator = codes "operator"
word_text word.Values = codes "values"
word_text word.In = codes "In"
word_text word.NotIn = codes "NotIn"
word_text word.Kind = codes "kind"
word_text word.Name = codes "name"
word_text word.ApiGroup = codes "apiGroup"
word_text word.Namespace = codes "namespace"
word_text word.ServiceAccount = codes "ServiceAccount"

-- ---- conditions

-- the condition of a rule of URLs
abbrev pub urls : When
urls = when.Given word.NonResourceUrls

-- the condition of operators that compare with values
abbrev pub listing : When
listing = when.Says word.Operator word.In word.NotIn

-- the condition of any other operator
abbrev pub told_operator : When
told_operator = when.Keeps word.Operator rule.Operator

-- the condition of a service account
abbrev pub account : When
account = when.Says word.Kind word.ServiceAccount word.ServiceAccount

-- the condition of any other kind of subjects
abbrev pub told_kind : When
told_kind = when.Keeps word.Kind rule.SubjectKind

-- ---- parts

-- a list of texts that is not empty
abbrev pub some_texts : ValueRule
some_texts = part.Texts need.Required rule.Any

-- no list of texts, or an empty one
abbrev pub no_texts : ValueRule
no_texts = part.Texts need.Forbidden rule.Any

-- a list of texts
abbrev pub any_texts : ValueRule
any_texts = part.Texts need.Optional rule.Any

-- a list of label values that is not empty
abbrev pub some_values : ValueRule
some_values = part.Texts need.Required rule.LabelValue

-- no list of label values, or an empty one
abbrev pub no_values : ValueRule
no_values = part.Texts need.Forbidden rule.LabelValue

-- a list of label values
abbrev pub any_values : ValueRule
any_values = part.Texts need.Optional rule.LabelValue

-- a row of a table: a key and the part for it
abbrev pub row : Word → Choice → Row
row key choice = record { 0 = key; 1 = choice }

-- ---- the tables

-- the rows of a `Role`
abbrev pub role_rows : List Row
role_rows = row word.Rules (One (part.Objects need.Optional written.Always table.RoleRule)) ∷ []

-- the rows of a `ClusterRole`
abbrev pub cluster_role_rows : List Row
cluster_role_rows =
    row word.Rules (One (part.Objects need.Optional written.Always table.ClusterRoleRule)) ∷
    row word.AggregationRule (One (part.Object need.Optional table.AggregationRule)) ∷ []

-- the rows of a `RoleBinding`
abbrev pub role_binding_rows : List Row
role_binding_rows =
    row word.RoleRef (One (part.Object need.Required table.RoleRef)) ∷
    row word.Subjects (One (part.Objects need.Optional written.NotEmpty table.Subject)) ∷ []

-- the rows of a `ClusterRoleBinding`
abbrev pub cluster_role_binding_rows : List Row
cluster_role_binding_rows =
    row word.RoleRef (One (part.Object need.Required table.ClusterRoleRef)) ∷
    row word.Subjects (One (part.Objects need.Optional written.NotEmpty table.ClusterSubject)) ∷ []

-- `PolicyRule` in a namespace: it has no URLs; a rule that gives some names no resources
abbrev pub role_rule_rows : List Row
role_rule_rows =
    row word.Verbs (One some_texts) ∷
    row word.ApiGroups (Two urls no_texts some_texts) ∷
    row word.Resources (Two urls no_texts some_texts) ∷
    row word.ResourceNames (Two urls no_texts any_texts) ∷
    row word.NonResourceUrls (One no_texts) ∷ []

-- `PolicyRule` cluster-wide: a rule of URLs names no resources
abbrev pub cluster_role_rule_rows : List Row
cluster_role_rule_rows =
    row word.Verbs (One some_texts) ∷
    row word.ApiGroups (Two urls no_texts some_texts) ∷
    row word.Resources (Two urls no_texts some_texts) ∷
    row word.ResourceNames (Two urls no_texts any_texts) ∷
    row word.NonResourceUrls (One any_texts) ∷ []

-- the rows of an `AggregationRule`
abbrev pub aggregation_rule_rows : List Row
aggregation_rule_rows = row word.ClusterRoleSelectors (One (part.Objects need.Required written.Always table.Selector)) ∷ []

-- the rows of a `LabelSelector`
abbrev pub selector_rows : List Row
selector_rows =
    row word.MatchLabels (One part.Labels) ∷
    row word.MatchExpressions (One (part.Objects need.Optional written.NotEmpty table.Requirement)) ∷ []

-- `LabelSelectorRequirement`: In and NotIn compare with values, Exists and DoesNotExist have none
abbrev pub requirement_rows : List Row
requirement_rows =
    row word.Key (One (part.Text rule.LabelKey)) ∷
    row word.Operator (One (part.Text rule.Operator)) ∷
    row word.Values (Three listing some_values told_operator no_values any_values) ∷ []

-- `Subject` in a namespace: only service accounts have a namespace; users and groups are of the API group of roles,
-- which is filled in
abbrev pub subject_rows : List Row
subject_rows =
    row word.Kind (One (part.Text rule.SubjectKind)) ∷
    row word.Name (Two account (part.Text rule.AccountName) (part.Text rule.NotEmpty)) ∷
    row word.ApiGroup (Three account (part.Text rule.Empty) told_kind (part.Text rule.RbacGroup) (part.Text rule.Any)) ∷
    row word.Namespace (Two account (part.Text rule.Any) part.Dropped) ∷ []

-- `Subject` cluster-wide: a service account specifies its namespace
abbrev pub cluster_subject_rows : List Row
cluster_subject_rows =
    row word.Kind (One (part.Text rule.SubjectKind)) ∷
    row word.Name (Two account (part.Text rule.AccountName) (part.Text rule.NotEmpty)) ∷
    row word.ApiGroup (Three account (part.Text rule.Empty) told_kind (part.Text rule.RbacGroup) (part.Text rule.Any)) ∷
    row word.Namespace (Two account (part.Text rule.NotEmpty) part.Dropped) ∷ []

-- the rows of a `RoleRef` in a namespace
abbrev pub role_ref_rows : List Row
role_ref_rows =
    row word.ApiGroup (One (part.Text rule.RbacGroupOrEmpty)) ∷
    row word.Kind (One (part.Text rule.RoleKind)) ∷
    row word.Name (One (part.Text rule.RoleName)) ∷ []

-- `RoleRef` cluster-wide: to cluster roles alone
abbrev pub cluster_role_ref_rows : List Row
cluster_role_ref_rows =
    row word.ApiGroup (One (part.Text rule.RbacGroupOrEmpty)) ∷
    row word.Kind (One (part.Text rule.ClusterRoleKind)) ∷
    row word.Name (One (part.Text rule.RoleName)) ∷ []

-- the rows of a table
abbrev pub rows_of : Table → List Row
rows_of table.Role = role_rows
rows_of table.ClusterRole = cluster_role_rows
rows_of table.RoleBinding = role_binding_rows
rows_of table.ClusterRoleBinding = cluster_role_binding_rows
rows_of table.RoleRule = role_rule_rows
rows_of table.ClusterRoleRule = cluster_role_rule_rows
rows_of table.AggregationRule = aggregation_rule_rows
rows_of table.Selector = selector_rows
rows_of table.Requirement = requirement_rows
rows_of table.Subject = subject_rows
rows_of table.ClusterSubject = cluster_subject_rows
rows_of table.RoleRef = role_ref_rows
rows_of table.ClusterRoleRef = cluster_role_ref_rows
