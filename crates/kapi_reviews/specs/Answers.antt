-- The text of the answer to a review: texts and lists that are empty are left out, unless a comment says otherwise.
use Rattle.std.specs.Prelude.{ℕ, List, ◌++◌, length, Bool, false, not, ◌==◌, if◌then◌else◌, Option, Some, None, option_map, codes, decimal}
use Rattle.std.specs.List.{filter}
use Rattle.serde_json.specs.Data.{Data, boolean, string, array, object, Members, no_members, put}
use Rattle.kapi_model.specs.declared.policy_rule.PolicyRule.{PolicyRule}
use Rattle.kapi_model.specs.Kinds.{role_kind_text}
use Rattle.kapi_object.specs.Contents.{put_text, put_texts, write_items}
use Rattle.kapi_object.specs.Tree.{put_if}
use Rattle.kapi_policy.specs.declared.decision.BindingKind.{BindingKind}
use Rattle.kapi_policy.specs.declared.decision.BindingKind.TheVariants as binding
use Rattle.kapi_policy.specs.Decided.{Decided, allowed, masters, denied, Granted}
use Rattle.kapi_policy.specs.Laws.{is_allowed}
use Rattle.kapi_model.specs.declared.identity.Identity.{Identity}
use Rattle.kapi_rules.specs.declared.point.Point.{Point}
use Rattle.kapi_rules.specs.declared.point.Point.TheVariants as point
use Rattle.kapi_reviews.specs.declared.kind.ReviewKind.{ReviewKind}
use Rattle.kapi_reviews.specs.declared.question.Question.{Question}
use Rattle.kapi_reviews.specs.Kinds.{is_local, kind_text, tells_subject}

-- ---- `spec`

-- the key of the attributes of a point
abbrev pub attributes_key : Point → List ℕ
attributes_key (point.Resource p) = codes "resourceAttributes"
attributes_key (point.Url p) = codes "nonResourceAttributes"

-- the attributes of a point, with the namespace of a resource
unfoldable pub attributes_members : List ℕ → Point → Members
attributes_members namespace (point.Resource p) =
    put_text (codes "name") p.name
    (put_text (codes "subresource") p.subresource
    (put_text (codes "resource") p.resource
    (put_text (codes "group") p.group
    (put_text (codes "verb") p.verb
    (put_text (codes "namespace") namespace no_members)))))
attributes_members namespace (point.Url p) = put_text (codes "verb") p.verb (put_text (codes "path") p.path no_members)

-- the user and the groups, in a review that names them
abbrev pub subject_members : ReviewKind → Identity → Members
subject_members kind identity =
    if tells_subject kind then put_texts (codes "groups") identity.groups (put_text (codes "user") identity.user no_members) else no_members

-- the question as the `spec` of a review
unfoldable pub question_tree : ReviewKind → Question → Data
question_tree kind q =
    object (put (attributes_key q.point) (object (attributes_members q.namespace q.point)) (subject_members kind q.identity))

-- ---- `status`

-- a kind of bindings as objects write it
abbrev pub binding_text : BindingKind → List ℕ
binding_text binding.RoleBinding = codes "RoleBinding"
binding_text binding.ClusterRoleBinding = codes "ClusterRoleBinding"

-- the rule that allows the point, by its binding, its role and its index there
unfoldable pub grant_text : Granted → List ℕ
grant_text g =
    binding_text g.kind ++ codes " " ++ g.binding ++ codes ", " ++ role_kind_text g.role.kind ++ codes " " ++ g.role.name
    ++ codes ", rule " ++ decimal g.rule

-- why the point is allowed, if it is
abbrev pub reason_of : Decided → Option (List ℕ)
reason_of (allowed g) = Some (grant_text g)
reason_of masters = Some (codes "group system:masters")
reason_of denied = None

-- a decision: whether the point is allowed, and if so by what
unfoldable pub decision_tree : Decided → Data
decision_tree d = object (put_if (codes "reason") (option_map string (reason_of d)) (put (codes "allowed") (boolean (is_allowed d)) no_members))

-- a list of texts, which is written if it is empty too
abbrev pub put_list : List ℕ → List (List ℕ) → Members → Members
put_list key ss ms = put key (array (write_items string ss)) ms

-- a rule of URLs
abbrev pub is_url_rule : PolicyRule → Bool
is_url_rule r = not (length r.non_resource_urls == 0)

-- a rule of URLs as it is written
unfoldable pub url_rule_tree : PolicyRule → Data
url_rule_tree r = object (put_list (codes "verbs") r.verbs (put_list (codes "nonResourceURLs") r.non_resource_urls no_members))

-- any other rule as it is written: its names only if there are some
unfoldable pub resource_rule_tree : PolicyRule → Data
resource_rule_tree r =
    object (put_list (codes "verbs") r.verbs
    (put_list (codes "resources") r.resources
    (put_texts (codes "resourceNames") r.resource_names
    (put_list (codes "apiGroups") r.api_groups no_members))))

-- the rules of each sort, in order
unfoldable pub rules_tree : List PolicyRule → Data
rules_tree rules =
    object (put (codes "resourceRules") (array (write_items resource_rule_tree (filter (λ r. not (is_url_rule r)) rules)))
    (put (codes "nonResourceRules") (array (write_items url_rule_tree (filter is_url_rule rules)))
    (put (codes "incomplete") (boolean false) no_members)))

-- ---- the whole

-- the namespace of a review that is in one; there is no other metadata
abbrev pub metadata_members : ReviewKind → List ℕ → Members
metadata_members kind namespace = if is_local kind then put_text (codes "namespace") namespace no_members else no_members

-- the review with its answer
unfoldable pub review_tree : ReviewKind → List ℕ → Data → Data → Data
review_tree kind namespace spec status =
    object (put (codes "status") status
    (put (codes "spec") spec
    (put (codes "metadata") (object (metadata_members kind namespace))
    (put (codes "kind") (string (kind_text kind))
    (put (codes "apiVersion") (string (codes "authorization.k8s.io/v1")) no_members)))))
