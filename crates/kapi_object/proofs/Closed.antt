-- What holds of texts, and of lists and objects of such parts, holds of what a resource type keeps of a body.
use Rattle.std.proofs.Common.{ℕ, suc, List, [], ◌∷◌, Bool, true, false, if◌then◌else◌, Option, Some, None, codes, length, ◌==◌}
use Rattle.std.specs.Option.{option_and_then}
use Rattle.std.specs.Ordering.{nat_cmp, match_ordering}
use Rattle.std.specs.declared.cmp.Ordering.TheVariants.{Less, Equal, Greater}
use Rattle.std.specs.Cmp.Lexicographic.{slice_cmp}
use Rattle.serde_json.specs.Data.{Data, null, string, array, object, Items, no_items, item, Members, no_members, member, put}
use Rattle.serde_json.specs.Find.{get, get_member}
use Rattle.kapi_object.specs.Contents.{put_text, put_items, text_value, list_value, members_value, put_texts, write_items, rule_tree, rules_of, requirement_tree, selector_tree, aggregation_tree, aggregation_in, put_named, of_rbac_group, subject_tree, subjects_of, role_ref_tree, role_ref_of, put_labels, role_content, cluster_role_content, binding_content, content_of}
use Rattle.kapi_model.specs.Kinds.{operator_text, rbac_group, role_kind_text, subject_kind_text}
use Rattle.kapi_object.specs.Tree.{is_empty, is_empty_object, unless_null, members_or_none, metadata_of, in_metadata, with_text, put_if, with_content, with_member_of, without, without_member}
use Rattle.kapi_model.specs.declared.aggregation_rule.AggregationRule.{AggregationRule}
use Rattle.kapi_model.specs.declared.kinds.SubjectKind.{SubjectKind}
use Rattle.kapi_model.specs.declared.kinds.SubjectKind.TheVariants as kind
use Rattle.kapi_model.specs.declared.policy_rule.PolicyRule.{PolicyRule}
use Rattle.kapi_model.specs.declared.role_ref.RoleRef.{RoleRef}
use Rattle.kapi_model.specs.declared.subject.Subject.{Subject}
use Rattle.kapi_model.specs.declared.subject.Subject.TheVariants.{User, Group, ServiceAccount}
use Rattle.kapi_model.specs.declared.row.Schema.{Schema}
use Rattle.kapi_model.specs.declared.row.Schema.TheVariants.{Open, Role, ClusterRole, RoleBinding, ClusterRoleBinding}
use Rattle.kapi_model.specs.declared.selector.Label.{Label}
use Rattle.kapi_model.specs.declared.selector.Requirement.{Requirement}
use Rattle.kapi_model.specs.declared.selector.Selector.{Selector}

-- P of trees, I of items and M of members hold of what is made of what they hold of, and of its parts; the number is how deep
-- those may be
pub record Closed (P : ℕ → Data → Type 0) (I : ℕ → Items → Type 0) (M : ℕ → Members → Type 0) : Type 0 where
  pub text : (n : ℕ) (s : List ℕ) → P n (string s)
  pub list : (n : ℕ) (ds : Items) → I n ds → P (suc n) (array ds)
  pub members : (n : ℕ) (ms : Members) → M n ms → P (suc n) (object ms)
  pub inside : (n : ℕ) (ms : Members) → P (suc n) (object ms) → M n ms
  pub no_item : (n : ℕ) → I n no_items
  pub one_more : (n : ℕ) (d : Data) (ds : Items) → P n d → I n ds → I n (item d ds)
  pub no_member : (n : ℕ) → M n no_members
  pub with_member : (n : ℕ) (k : List ℕ) (d : Data) (ms : Members) → P n d → M n ms → M n (put k d ms)
  pub without_one : (n : ℕ) (k : List ℕ) (ms : Members) → M n ms → M n (without k ms)
  pub first : (n : ℕ) (k : List ℕ) (d : Data) (ms : Members) → M n (member k d ms) → P n d
  pub others : (n : ℕ) (k : List ℕ) (d : Data) (ms : Members) → M n (member k d ms) → M n ms

module _ {P : ℕ → Data → Type 0} {I : ℕ → Items → Type 0} {M : ℕ → Members → Type 0} (c : Closed P I M) where
  -- ---- what is found in a tree

  pub members_hold : (n : ℕ) (d : Data) → P (suc n) d → M n (members_or_none (Some d))
  members_hold n (object ms) h = c.inside n ms h
  members_hold n _ h = c.no_member n

  -- P holds of a value that may be missing
  abbrev pub IfThere : ℕ → Option Data → Type 0
  IfThere n None = Unit {0}
  IfThere n (Some d) = P n d

  get_member_holds : (n : ℕ) (k : List ℕ) (ms : Members) → M n ms → IfThere n (get_member k ms)
  get_member_holds n k no_members h = tt
  get_member_holds n k (member l e ms) h =
      elim (slice_cmp nat_cmp k l) as (λ o. IfThere n (match_ordering o (get_member k ms) (Some e) (get_member k ms))) [
        | Less ↦ get_member_holds n k ms (c.others n l e ms h)
        | Equal ↦ c.first n l e ms h
        | Greater ↦ get_member_holds n k ms (c.others n l e ms h)
      ]

  get_holds : (n : ℕ) (k : List ℕ) (d : Data) → P (suc n) d → IfThere n (get k d)
  get_holds n k (object ms) h = get_member_holds n k ms (c.inside n ms h)
  get_holds n k _ h = tt

  pub present_holds : (n : ℕ) (o : Option Data) → IfThere n o → IfThere n (option_and_then unless_null o)
  present_holds n None h = tt
  present_holds n (Some null) h = tt
  present_holds n (Some _) h = h

  then_get_holds : (n : ℕ) (k : List ℕ) (o : Option Data) → IfThere (suc n) o → IfThere n (option_and_then (get k) o)
  then_get_holds n k None h = tt
  then_get_holds n k (Some d) h = get_holds n k d h

  pub in_metadata_holds : (n : ℕ) (k : List ℕ) (d : Data) → P (suc (suc n)) d → IfThere n (in_metadata k d)
  in_metadata_holds n k d h = then_get_holds n k (get (codes "metadata") d) (get_holds (suc n) (codes "metadata") d h)

  pub found_hold : (n : ℕ) (o : Option Data) → IfThere (suc n) o → M n (members_or_none o)
  found_hold n None h = c.no_member n
  found_hold n (Some d) h = members_hold n d h

  pub metadata_hold : (n : ℕ) (d : Data) → P (suc (suc n)) d → M n (metadata_of d)
  metadata_hold n d h = found_hold n (get (codes "metadata") d) (get_holds (suc n) (codes "metadata") d h)

  pub with_text_holds : (n : ℕ) (k t : List ℕ) (d : Data) → P (suc (suc n)) d → P (suc (suc n)) (with_text k t d)
  with_text_holds n k t d h =
      c.members (suc n) (put (codes "metadata") (object (put k (string t) (metadata_of d))) (members_or_none (Some d)))
      (c.with_member (suc n) (codes "metadata") (object (put k (string t) (metadata_of d))) (members_or_none (Some d))
      (c.members n (put k (string t) (metadata_of d))
      (c.with_member n k (string t) (metadata_of d) (c.text n t) (metadata_hold n d h)))
      (members_hold (suc n) d h))

  pub without_member_holds : (n : ℕ) (k : List ℕ) (d : Data) → P (suc n) d → P (suc n) (without_member k d)
  without_member_holds n k (object ms) h = c.members n (without k ms) (c.without_one n k ms (c.inside n ms h))
  without_member_holds n k _ h = h

  pub put_if_holds : (n : ℕ) (k : List ℕ) (o : Option Data) (ms : Members) → IfThere n o → M n ms → M n (put_if k o ms)
  put_if_holds n k None ms ho hm = hm
  put_if_holds n k (Some d) ms ho hm = c.with_member n k d ms ho hm

  pub with_member_of_holds : (n : ℕ) (k : List ℕ) (other d : Data) → P (suc n) other → P (suc n) d → P (suc n) (with_member_of k other d)
  with_member_of_holds n k other d ho h =
      c.members n _ (put_if_holds n k (get k other) (without k (members_or_none (Some d))) (get_holds n k other ho) (c.without_one n k (members_or_none (Some d)) (members_hold n d h)))

  pub with_content_holds : (n : ℕ) (content : Members) (d : Data) → M n content → P (suc n) d → P (suc n) (with_content content d)
  unfolding with_content
  with_content_holds n content d hc h =
      c.members n _
      (put_if_holds n (codes "metadata") (get (codes "metadata") d) _ (get_holds n (codes "metadata") d h)
      (put_if_holds n (codes "kind") (get (codes "kind") d) _ (get_holds n (codes "kind") d h)
      (put_if_holds n (codes "apiVersion") (get (codes "apiVersion") d) content (get_holds n (codes "apiVersion") d h) hc)))

  -- ---- what is written of texts and lists

  pub unless_holds : (n : ℕ) (b : Bool) (d : Data) → P n d → IfThere n (if b then None else Some d)
  unless_holds n true d h = tt
  unless_holds n false d h = h

  put_text_holds : (n : ℕ) (k s : List ℕ) (ms : Members) → M n ms → M n (put_text k s ms)
  put_text_holds n k s ms h = put_if_holds n k (text_value s) ms (unless_holds n (length s == 0) (string s) (c.text n s)) h

  put_items_holds : (n : ℕ) (k : List ℕ) (ds : Items) (ms : Members) → I n ds → M (suc n) ms → M (suc n) (put_items k ds ms)
  put_items_holds n k ds ms hd hm = put_if_holds (suc n) k (list_value ds) ms (unless_holds (suc n) (is_empty ds) (array ds) (c.list n ds hd)) hm

  pub items_hold : {X : Type 0} (n : ℕ) (f : X → Data) → ((x : X) → P n (f x)) → (xs : List X) → I n (write_items f xs)
  items_hold n f h [] = c.no_item n
  items_hold n f h (x ∷ xs) = c.one_more n (f x) (write_items f xs) (h x) (items_hold n f h xs)

  put_texts_holds : (n : ℕ) (k : List ℕ) (ss : List (List ℕ)) (ms : Members) → M (suc n) ms → M (suc n) (put_texts k ss ms)
  put_texts_holds n k ss ms h = put_items_holds n k (write_items string ss) ms (items_hold n string (c.text n) ss) h

  -- ---- rules, selectors, subjects

  pub rule_tree_holds : (n : ℕ) (r : PolicyRule) → P (suc (suc n)) (rule_tree r)
  unfolding rule_tree
  rule_tree_holds n r =
      c.members (suc n) _
      (put_texts_holds n (codes "nonResourceURLs") r.non_resource_urls _
      (put_texts_holds n (codes "resourceNames") r.resource_names _
      (put_texts_holds n (codes "resources") r.resources _
      (put_texts_holds n (codes "apiGroups") r.api_groups _
      (c.with_member (suc n) (codes "verbs") (array (write_items string r.verbs)) no_members (c.list n _ (items_hold n string (c.text n) r.verbs)) (c.no_member (suc n)))))))

  requirement_tree_holds : (n : ℕ) (r : Requirement) → P (suc (suc n)) (requirement_tree r)
  unfolding requirement_tree
  requirement_tree_holds n r =
      c.members (suc n) _
      (put_texts_holds n (codes "values") r.values _
      (c.with_member (suc n) (codes "operator") (string (operator_text r.operator)) _ (c.text (suc n) _)
      (c.with_member (suc n) (codes "key") (string r.key) no_members (c.text (suc n) _) (c.no_member (suc n)))))

  put_labels_holds : (n : ℕ) (ls : List Label) (ms : Members) → M n ms → M n (put_labels ls ms)
  put_labels_holds n [] ms h = h
  put_labels_holds n (l ∷ ls) ms h = put_labels_holds n ls (put l.key (string l.value) ms) (c.with_member n l.key (string l.value) ms (c.text n l.value) h)

  selector_tree_holds : (n : ℕ) (s : Selector) → P (suc (suc (suc (suc n)))) (selector_tree s)
  unfolding selector_tree
  selector_tree_holds n s =
      c.members (suc (suc (suc n))) _
      (put_items_holds (suc (suc n)) (codes "matchExpressions") (write_items requirement_tree s.match_expressions) _
      (items_hold (suc (suc n)) requirement_tree (requirement_tree_holds n) s.match_expressions)
      (put_if_holds (suc (suc (suc n))) (codes "matchLabels") (members_value (put_labels s.match_labels no_members)) no_members
      (unless_holds (suc (suc (suc n))) (is_empty_object (object (put_labels s.match_labels no_members))) (object (put_labels s.match_labels no_members))
      (c.members (suc (suc n)) _ (put_labels_holds (suc (suc n)) s.match_labels no_members (c.no_member (suc (suc n))))))
      (c.no_member (suc (suc (suc n))))))

  aggregation_tree_holds : (n : ℕ) (r : AggregationRule) → P (suc (suc (suc (suc (suc (suc n)))))) (aggregation_tree r)
  unfolding aggregation_tree
  aggregation_tree_holds n r =
      c.members (suc (suc (suc (suc (suc n))))) _
      (c.with_member (suc (suc (suc (suc (suc n))))) (codes "clusterRoleSelectors") (array (write_items selector_tree r.cluster_role_selectors)) no_members
      (c.list (suc (suc (suc (suc n)))) _ (items_hold (suc (suc (suc (suc n)))) selector_tree (selector_tree_holds n) r.cluster_role_selectors))
      (c.no_member (suc (suc (suc (suc (suc n)))))))

  put_named_holds : (n : ℕ) (kind : SubjectKind) (name : List ℕ) (ms : Members) → M n ms → M n (put_named kind name ms)
  put_named_holds n kind name ms h =
      c.with_member n (codes "name") (string name) _ (c.text n name) (c.with_member n (codes "kind") (string (subject_kind_text kind)) ms (c.text n _) h)

  of_rbac_group_holds : (n : ℕ) → M n of_rbac_group
  of_rbac_group_holds n = c.with_member n (codes "apiGroup") (string rbac_group) no_members (c.text n _) (c.no_member n)

  subject_tree_holds : (n : ℕ) (s : Subject) → P (suc n) (subject_tree s)
  unfolding subject_tree
  subject_tree_holds n (User name) = c.members n _ (put_named_holds n kind.User name _ (of_rbac_group_holds n))
  subject_tree_holds n (Group name) = c.members n _ (put_named_holds n kind.Group name _ (of_rbac_group_holds n))
  subject_tree_holds n (ServiceAccount account) =
      c.members n _ (put_text_holds n (codes "namespace") account.namespace _ (put_named_holds n kind.ServiceAccount account.name no_members (c.no_member n)))

  role_ref_tree_holds : (n : ℕ) (r : RoleRef) → P (suc n) (role_ref_tree r)
  unfolding role_ref_tree
  role_ref_tree_holds n r =
      c.members n _ (c.with_member n (codes "name") (string r.name) _ (c.text n r.name)
      (c.with_member n (codes "kind") (string (role_kind_text r.kind)) _ (c.text n _) (of_rbac_group_holds n)))

  -- ---- the four kinds

  pub role_content_holds : (n : ℕ) (rules : List PolicyRule) → M (suc (suc (suc n))) (role_content rules)
  role_content_holds n rules =
      c.with_member (suc (suc (suc n))) (codes "rules") (array (write_items rule_tree rules)) no_members
      (c.list (suc (suc n)) _ (items_hold (suc (suc n)) rule_tree (rule_tree_holds n) rules)) (c.no_member (suc (suc (suc n))))

  pub cluster_role_content_holds : (n : ℕ) (o : Option AggregationRule) (rules : List PolicyRule)
      → M (suc (suc (suc (suc (suc (suc n)))))) (cluster_role_content o rules)
  cluster_role_content_holds n None rules = role_content_holds (suc (suc (suc n))) rules
  cluster_role_content_holds n (Some r) rules =
      c.with_member (suc (suc (suc (suc (suc (suc n)))))) (codes "aggregationRule") (aggregation_tree r) _ (aggregation_tree_holds n r)
      (role_content_holds (suc (suc (suc n))) rules)

  pub binding_content_holds : (n : ℕ) (subjects : List Subject) (r : RoleRef) → M (suc (suc n)) (binding_content subjects r)
  binding_content_holds n subjects r =
      put_items_holds (suc n) (codes "subjects") (write_items subject_tree subjects) _ (items_hold (suc n) subject_tree (subject_tree_holds n) subjects)
      (c.with_member (suc (suc n)) (codes "roleRef") (role_ref_tree r) no_members (role_ref_tree_holds (suc n) r) (c.no_member (suc (suc n))))

  pub content_holds : (n : ℕ) (schema : Schema) (d : Data) → P (suc (suc (suc (suc (suc (suc (suc n))))))) d
      → M (suc (suc (suc (suc (suc (suc n)))))) (content_of schema d)
  unfolding content_of
  content_holds n Open d h = members_hold (suc (suc (suc (suc (suc (suc n)))))) d h
  content_holds n Role d h = role_content_holds (suc (suc (suc n))) (rules_of d)
  content_holds n ClusterRole d h = cluster_role_content_holds n (aggregation_in d) (rules_of d)
  content_holds n RoleBinding d h = binding_content_holds (suc (suc (suc (suc n)))) (subjects_of d) (role_ref_of d)
  content_holds n ClusterRoleBinding d h = binding_content_holds (suc (suc (suc (suc n)))) (subjects_of d) (role_ref_of d)
