-- What roles and bindings are read as, and how they are written (Kubernetes API, rbac.authorization.k8s.io/v1, and
-- `LabelSelector` of meta/v1): lists but `verbs`, `rules` and `clusterRoleSelectors`, and texts that may be empty, are
-- left out if they are empty; a resource type keeps of a body, beside its metadata, what is read of it, written.
use Rattle.std.specs.Prelude.{ℕ, List, [], ◌∷◌, length, ◌==◌, if◌then◌else◌, Option, Some, None, map, option_map, unwrap_or, codes}
use Rattle.serde_json.specs.Data.{Data, string, array, object, Items, no_items, item, Members, no_members, member, put}
use Rattle.serde_json.specs.View.{items_of}
use Rattle.kapi_model.specs.declared.aggregation_rule.AggregationRule.{AggregationRule}
use Rattle.kapi_model.specs.declared.kinds.RoleKind.{RoleKind}
use Rattle.kapi_model.specs.declared.kinds.RoleKind.TheVariants as role
use Rattle.kapi_model.specs.declared.kinds.SubjectKind.{SubjectKind}
use Rattle.kapi_model.specs.declared.kinds.SubjectKind.TheVariants as kind
use Rattle.kapi_model.specs.declared.policy_rule.PolicyRule.{PolicyRule}
use Rattle.kapi_model.specs.declared.role_ref.RoleRef.{RoleRef}
use Rattle.kapi_model.specs.declared.row.Schema.{Schema}
use Rattle.kapi_model.specs.declared.row.Schema.TheVariants.{Open, Role, ClusterRole, RoleBinding, ClusterRoleBinding}
use Rattle.kapi_model.specs.declared.selector.Label.{Label}
use Rattle.kapi_model.specs.declared.selector.Operator.{Operator}
use Rattle.kapi_model.specs.declared.selector.Operator.TheVariants as operator
use Rattle.kapi_model.specs.declared.selector.Requirement.{Requirement}
use Rattle.kapi_model.specs.declared.selector.Selector.{Selector}
use Rattle.kapi_model.specs.declared.subject.Subject.{Subject}
use Rattle.kapi_model.specs.declared.subject.Subject.TheVariants.{User, Group, ServiceAccount}
use Rattle.kapi_model.specs.Kinds.{rbac_group, role_kind, role_kind_text, subject_kind, subject_kind_text, operator_of, operator_text}
use Rattle.kapi_object.specs.Tree.{is_empty, is_empty_object, member_of, members_or_none, put_if}

-- ---- what a tree holds, if it has no fault

-- the text that a value is; anything else is as the empty text
abbrev pub text_of : Data → List ℕ
text_of (string s) = s
text_of _ = []

-- the text that a value is, if there is one; a missing value is as the empty text
abbrev pub text_if : Option Data → List ℕ
text_if None = []
text_if (Some d) = text_of d

-- the text that is the member of a key; absent is empty
abbrev pub text_at : List ℕ → Data → List ℕ
text_at key d = text_if (member_of key d)

-- the elements of a list; anything else has none
abbrev pub items_if : Option Data → Items
items_if (Some (array ds)) = ds
items_if _ = no_items

-- the elements of the list that is the member of a key; absent is empty
abbrev pub items_at : List ℕ → Data → Items
items_at key d = items_if (member_of key d)

-- each element as what it is read as
abbrev pub read_items : {X : Type 0} → (Data → X) → Items → List X
read_items f no_items = []
read_items f (item d ds) = f d ∷ read_items f ds

-- the texts of the list that is the member of a key
abbrev pub texts_at : List ℕ → Data → List (List ℕ)
texts_at key d = read_items text_of (items_at key d)

-- ---- how it is written

-- each value as it is written
abbrev pub write_items : {X : Type 0} → (X → Data) → List X → Items
write_items f xs = items_of (map f xs)

-- a text, unless it is empty
abbrev pub text_value : List ℕ → Option Data
text_value s = if length s == 0 then None else Some (string s)

-- a list, unless it is empty
abbrev pub list_value : Items → Option Data
list_value ds = if is_empty ds then None else Some (array ds)

-- an object, unless it is empty
abbrev pub members_value : Members → Option Data
members_value ms = if is_empty_object (object ms) then None else Some (object ms)

-- the members with the text, unless it is empty
abbrev pub put_text : List ℕ → List ℕ → Members → Members
put_text key s ms = put_if key (text_value s) ms

-- the members with the list, unless it is empty
abbrev pub put_items : List ℕ → Items → Members → Members
put_items key ds ms = put_if key (list_value ds) ms

-- the members with the list of texts, unless it is empty
abbrev pub put_texts : List ℕ → List (List ℕ) → Members → Members
put_texts key ss ms = put_items key (write_items string ss) ms

-- ---- rules

-- the rule that a value is read as
abbrev pub rule_of : Data → PolicyRule
rule_of d = record {
  verbs = texts_at (codes "verbs") d;
  api_groups = texts_at (codes "apiGroups") d;
  resources = texts_at (codes "resources") d;
  resource_names = texts_at (codes "resourceNames") d;
  non_resource_urls = texts_at (codes "nonResourceURLs") d;
}

-- the rule as it is written
unfoldable pub rule_tree : PolicyRule → Data
rule_tree r =
    object (put_texts (codes "nonResourceURLs") r.non_resource_urls
    (put_texts (codes "resourceNames") r.resource_names
    (put_texts (codes "resources") r.resources
    (put_texts (codes "apiGroups") r.api_groups
    (put (codes "verbs") (array (write_items string r.verbs)) no_members)))))

-- the rules of a role
abbrev pub rules_of : Data → List PolicyRule
rules_of tree = read_items rule_of (items_at (codes "rules") tree)

-- ---- selectors

-- the operator at a key
abbrev pub operator_at : List ℕ → Data → Operator
operator_at key d = unwrap_or (operator_of (text_at key d)) operator.In

-- the requirement that a value is read as
abbrev pub requirement_of : Data → Requirement
requirement_of d = record {
  key = text_at (codes "key") d;
  operator = operator_at (codes "operator") d;
  values = texts_at (codes "values") d;
}

-- the requirement as it is written
unfoldable pub requirement_tree : Requirement → Data
requirement_tree r =
    object (put_texts (codes "values") r.values
    (put (codes "operator") (string (operator_text r.operator))
    (put (codes "key") (string r.key) no_members)))

-- the labels that members are
abbrev pub labels_in : Members → List Label
labels_in no_members = []
labels_in (member key d ms) = record { key = key; value = text_of d } ∷ labels_in ms

-- the members with each label
abbrev pub put_labels : List Label → Members → Members
put_labels [] ms = ms
put_labels (l ∷ ls) ms = put_labels ls (put l.key (string l.value) ms)

-- the selector that a value is read as
abbrev pub selector_of : Data → Selector
selector_of d = record {
  match_labels = labels_in (members_or_none (member_of (codes "matchLabels") d));
  match_expressions = read_items requirement_of (items_at (codes "matchExpressions") d);
}

-- the selector as it is written
unfoldable pub selector_tree : Selector → Data
selector_tree s =
    object (put_items (codes "matchExpressions") (write_items requirement_tree s.match_expressions)
    (put_if (codes "matchLabels") (members_value (put_labels s.match_labels no_members)) no_members))

-- ---- aggregation rules

-- the aggregation rule that a value is read as
abbrev pub aggregation_of : Data → AggregationRule
aggregation_of d = record { cluster_role_selectors = read_items selector_of (items_at (codes "clusterRoleSelectors") d) }

-- the aggregation rule as it is written
unfoldable pub aggregation_tree : AggregationRule → Data
aggregation_tree r = object (put (codes "clusterRoleSelectors") (array (write_items selector_tree r.cluster_role_selectors)) no_members)

-- the aggregation rule of a cluster role, if it has one
abbrev pub aggregation_in : Data → Option AggregationRule
aggregation_in tree = option_map aggregation_of (member_of (codes "aggregationRule") tree)

-- the members with the aggregation rule, if there is one
abbrev pub put_aggregation : Option AggregationRule → Members → Members
put_aggregation o ms = put_if (codes "aggregationRule") (option_map aggregation_tree o) ms

-- ---- subjects

-- a subject of the kind
abbrev pub subject_from : SubjectKind → List ℕ → List ℕ → Subject
subject_from kind.User name namespace = User name
subject_from kind.Group name namespace = Group name
subject_from kind.ServiceAccount name namespace = ServiceAccount (record { namespace = namespace; name = name })

-- the kind at a key
abbrev pub subject_kind_at : List ℕ → Data → SubjectKind
subject_kind_at key d = unwrap_or (subject_kind (text_at key d)) kind.ServiceAccount

-- the subject that a value is read as
abbrev pub subject_of : Data → Subject
subject_of d = subject_from (subject_kind_at (codes "kind") d) (text_at (codes "name") d) (text_at (codes "namespace") d)

-- the members with kind and name
abbrev pub put_named : SubjectKind → List ℕ → Members → Members
put_named kind name ms = put (codes "name") (string name) (put (codes "kind") (string (subject_kind_text kind)) ms)

-- the members of the API group of roles
abbrev pub of_rbac_group : Members
of_rbac_group = put (codes "apiGroup") (string rbac_group) no_members

-- the subject as it is written: users and groups are of the API group of roles; service accounts are of the core group,
-- and have a namespace
unfoldable pub subject_tree : Subject → Data
subject_tree (User name) = object (put_named kind.User name of_rbac_group)
subject_tree (Group name) = object (put_named kind.Group name of_rbac_group)
subject_tree (ServiceAccount account) = object (put_text (codes "namespace") account.namespace (put_named kind.ServiceAccount account.name no_members))

-- the subjects of a binding
abbrev pub subjects_of : Data → List Subject
subjects_of tree = read_items subject_of (items_at (codes "subjects") tree)

-- ---- references to roles

-- the kind at a key
abbrev pub role_kind_at : List ℕ → Data → RoleKind
role_kind_at key d = unwrap_or (role_kind (text_at key d)) role.ClusterRole

-- the reference that a value is read as
abbrev pub role_ref_if : Option Data → RoleRef
role_ref_if None = record { kind = role.ClusterRole; name = [] }
role_ref_if (Some d) = record { kind = role_kind_at (codes "kind") d; name = text_at (codes "name") d }

-- the reference of a binding
abbrev pub role_ref_of : Data → RoleRef
role_ref_of tree = role_ref_if (member_of (codes "roleRef") tree)

-- the reference as it is written
unfoldable pub role_ref_tree : RoleRef → Data
role_ref_tree r =
    object (put (codes "name") (string r.name)
    (put (codes "kind") (string (role_kind_text r.kind))
    of_rbac_group))

-- ---- the four kinds

-- the content of a role: its rules
abbrev pub role_content : List PolicyRule → Members
role_content rules = put (codes "rules") (array (write_items rule_tree rules)) no_members

-- the content of a cluster role: its rules, and the aggregation rule, if it has one
abbrev pub cluster_role_content : Option AggregationRule → List PolicyRule → Members
cluster_role_content aggregation rules = put_aggregation aggregation (role_content rules)

-- the content of a binding: its reference to a role, and its subjects, if there are any
abbrev pub binding_content : List Subject → RoleRef → Members
binding_content subjects r = put_items (codes "subjects") (write_items subject_tree subjects) (put (codes "roleRef") (role_ref_tree r) no_members)

-- what is kept of a tree beside its metadata, by the resource type's schema; the Open schema keeps all members
unfoldable pub content_of : Schema → Data → Members
content_of Open tree = members_or_none (Some tree)
content_of Role tree = role_content (rules_of tree)
content_of ClusterRole tree = cluster_role_content (aggregation_in tree) (rules_of tree)
content_of RoleBinding tree = binding_content (subjects_of tree) (role_ref_of tree)
content_of ClusterRoleBinding tree = binding_content (subjects_of tree) (role_ref_of tree)
