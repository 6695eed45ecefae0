-- The members of rules, selectors, subjects and references to roles as they are written.
use Rattle.std.proofs.Common.{◌≡◌, ◌∙◌, ℕ, List, Some, None, false, refl, ap, codes, bytes_eq}
use Rattle.std.specs.Option.{option_and_then}
use Rattle.serde_json.specs.Data.{string, array, Members, no_members, put}
use Rattle.serde_json.specs.Find.{get_member}
use Rattle.kapi_model.specs.Kinds.{operator_of, operator_text, subject_kind_text}
use Rattle.kapi_model.specs.declared.kinds.SubjectKind.TheVariants as kind
use Rattle.kapi_model.specs.declared.policy_rule.PolicyRule.{PolicyRule}
use Rattle.kapi_model.specs.declared.selector.Label.{Label}
use Rattle.kapi_model.specs.declared.selector.Operator.{Operator}
use Rattle.kapi_model.specs.declared.selector.Operator.TheVariants.{In, NotIn, Exists, DoesNotExist}
use Rattle.kapi_model.specs.declared.selector.Requirement.{Requirement}
use Rattle.kapi_model.specs.declared.selector.Selector.{Selector}
use Rattle.kapi_model.specs.declared.subject.ServiceAccount.{ServiceAccount as Account}
use Rattle.kapi_model.specs.declared.subject.Subject.TheVariants.{ServiceAccount}
use Rattle.kapi_object.proofs.Puts.{put_if_other, put_if_here, text_there, list_there, members_there}
use Rattle.kapi_object.specs.Contents.{write_items, put_texts, text_value, list_value, members_value, rule_tree, requirement_tree, put_labels, selector_tree, put_named, subject_tree}
use Rattle.kapi_object.specs.Tree.{member_of, put_if, unless_null}

-- ---- rules

abbrev with_verbs : PolicyRule → Members
with_verbs r = put (codes "verbs") (array (write_items string r.verbs)) no_members

abbrev with_groups : PolicyRule → Members
with_groups r = put_texts (codes "apiGroups") r.api_groups (with_verbs r)

abbrev with_resources : PolicyRule → Members
with_resources r = put_texts (codes "resources") r.resources (with_groups r)

abbrev with_names : PolicyRule → Members
with_names r = put_texts (codes "resourceNames") r.resource_names (with_resources r)

-- a member is not hidden by the lists that are put after it
under_groups : (q : List ℕ) (r : PolicyRule) → bytes_eq q (codes "apiGroups") ≡ false → get_member q (with_groups r) ≡ get_member q (with_verbs r)
under_groups q r h = put_if_other q (codes "apiGroups") (list_value (write_items string r.api_groups)) (with_verbs r) h

under_resources : (q : List ℕ) (r : PolicyRule) → bytes_eq q (codes "resources") ≡ false → get_member q (with_resources r) ≡ get_member q (with_groups r)
under_resources q r h = put_if_other q (codes "resources") (list_value (write_items string r.resources)) (with_groups r) h

under_names : (q : List ℕ) (r : PolicyRule) → bytes_eq q (codes "resourceNames") ≡ false → get_member q (with_names r) ≡ get_member q (with_resources r)
under_names q r h = put_if_other q (codes "resourceNames") (list_value (write_items string r.resource_names)) (with_resources r) h

under_urls : (q : List ℕ) (r : PolicyRule) → bytes_eq q (codes "nonResourceURLs") ≡ false → member_of q (rule_tree r) ≡ option_and_then unless_null (get_member q (with_names r))
unfolding rule_tree
under_urls q r h = ap (option_and_then unless_null) (put_if_other q (codes "nonResourceURLs") (list_value (write_items string r.non_resource_urls)) (with_names r) h)

-- if the key had no value, the list is there
texts_here : (k : List ℕ) (ss : List (List ℕ)) (ms : Members) → get_member k ms ≡ None → option_and_then unless_null (get_member k (put_texts k ss ms)) ≡ list_value (write_items string ss)
texts_here k ss ms h = ap (option_and_then unless_null) (put_if_here k (list_value (write_items string ss)) ms h) ∙ list_there (write_items string ss)

pub verbs_at : (r : PolicyRule) → member_of (codes "verbs") (rule_tree r) ≡ Some (array (write_items string r.verbs))
verbs_at r =
    under_urls (codes "verbs") r refl
    ∙ ap (option_and_then unless_null) (under_names (codes "verbs") r refl ∙ under_resources (codes "verbs") r refl ∙ under_groups (codes "verbs") r refl)

pub groups_at : (r : PolicyRule) → member_of (codes "apiGroups") (rule_tree r) ≡ list_value (write_items string r.api_groups)
groups_at r =
    under_urls (codes "apiGroups") r refl
    ∙ ap (option_and_then unless_null) (under_names (codes "apiGroups") r refl ∙ under_resources (codes "apiGroups") r refl)
    ∙ texts_here (codes "apiGroups") r.api_groups (with_verbs r) refl

pub resources_at : (r : PolicyRule) → member_of (codes "resources") (rule_tree r) ≡ list_value (write_items string r.resources)
resources_at r =
    under_urls (codes "resources") r refl
    ∙ ap (option_and_then unless_null) (under_names (codes "resources") r refl)
    ∙ texts_here (codes "resources") r.resources (with_groups r) (under_groups (codes "resources") r refl)

pub names_at : (r : PolicyRule) → member_of (codes "resourceNames") (rule_tree r) ≡ list_value (write_items string r.resource_names)
names_at r =
    under_urls (codes "resourceNames") r refl
    ∙ texts_here (codes "resourceNames") r.resource_names (with_resources r) (under_resources (codes "resourceNames") r refl ∙ under_groups (codes "resourceNames") r refl)

pub urls_at : (r : PolicyRule) → member_of (codes "nonResourceURLs") (rule_tree r) ≡ list_value (write_items string r.non_resource_urls)
unfolding rule_tree
urls_at r =
    texts_here (codes "nonResourceURLs") r.non_resource_urls (with_names r)
    (under_names (codes "nonResourceURLs") r refl ∙ under_resources (codes "nonResourceURLs") r refl ∙ under_groups (codes "nonResourceURLs") r refl)

-- ---- requirements

pub operator_known : (op : Operator) → operator_of (operator_text op) ≡ Some op
operator_known In = refl
operator_known NotIn = refl
operator_known Exists = refl
operator_known DoesNotExist = refl

abbrev with_operator : Requirement → Members
with_operator r = put (codes "operator") (string (operator_text r.operator)) (put (codes "key") (string r.key) no_members)

pub key_at : (r : Requirement) → member_of (codes "key") (requirement_tree r) ≡ Some (string r.key)
unfolding requirement_tree
key_at r = ap (option_and_then unless_null) (put_if_other (codes "key") (codes "values") (list_value (write_items string r.values)) (with_operator r) refl)

pub operator_here : (r : Requirement) → member_of (codes "operator") (requirement_tree r) ≡ Some (string (operator_text r.operator))
unfolding requirement_tree
operator_here r = ap (option_and_then unless_null) (put_if_other (codes "operator") (codes "values") (list_value (write_items string r.values)) (with_operator r) refl)

pub values_at : (r : Requirement) → member_of (codes "values") (requirement_tree r) ≡ list_value (write_items string r.values)
unfolding requirement_tree
values_at r = texts_here (codes "values") r.values (with_operator r) refl

-- ---- selectors

-- the members that a selector's labels are written as, at their key
abbrev with_labels : List Label → Members
with_labels ls = put_if (codes "matchLabels") (members_value (put_labels ls no_members)) no_members

pub labels_at : (s : Selector) → member_of (codes "matchLabels") (selector_tree s) ≡ members_value (put_labels s.match_labels no_members)
unfolding selector_tree
labels_at s =
    ap (option_and_then unless_null) (
    put_if_other (codes "matchLabels") (codes "matchExpressions") (list_value (write_items requirement_tree s.match_expressions)) (with_labels s.match_labels) refl
    ∙ put_if_here (codes "matchLabels") (members_value (put_labels s.match_labels no_members)) no_members refl
    )
    ∙ members_there (put_labels s.match_labels no_members)

pub expressions_at : (s : Selector) → member_of (codes "matchExpressions") (selector_tree s) ≡ list_value (write_items requirement_tree s.match_expressions)
unfolding selector_tree
expressions_at s =
    ap (option_and_then unless_null) (put_if_here (codes "matchExpressions") (list_value (write_items requirement_tree s.match_expressions)) (with_labels s.match_labels)
    (put_if_other (codes "matchExpressions") (codes "matchLabels") (members_value (put_labels s.match_labels no_members)) no_members refl))
    ∙ list_there (write_items requirement_tree s.match_expressions)

-- ---- service accounts

abbrev account_members : Account → Members
account_members a = put_named kind.ServiceAccount a.name no_members

-- a member that is not the namespace
account_at : (q : List ℕ) (a : Account) → bytes_eq q (codes "namespace") ≡ false → member_of q (subject_tree (ServiceAccount a)) ≡ option_and_then unless_null (get_member q (account_members a))
unfolding subject_tree
account_at q a h = ap (option_and_then unless_null) (put_if_other q (codes "namespace") (text_value a.namespace) (account_members a) h)

pub account_kind_at : (a : Account) → member_of (codes "kind") (subject_tree (ServiceAccount a)) ≡ Some (string (subject_kind_text kind.ServiceAccount))
account_kind_at a = account_at (codes "kind") a refl

pub account_name_at : (a : Account) → member_of (codes "name") (subject_tree (ServiceAccount a)) ≡ Some (string a.name)
account_name_at a = account_at (codes "name") a refl

pub account_group_at : (a : Account) → member_of (codes "apiGroup") (subject_tree (ServiceAccount a)) ≡ None
account_group_at a = account_at (codes "apiGroup") a refl

pub account_namespace_at : (a : Account) → member_of (codes "namespace") (subject_tree (ServiceAccount a)) ≡ text_value a.namespace
unfolding subject_tree
account_namespace_at a = ap (option_and_then unless_null) (put_if_here (codes "namespace") (text_value a.namespace) (account_members a) refl) ∙ text_there a.namespace
