-- What is written of a role or a binding is read as it, and what an admitted tree is read as is written as that tree.
use Rattle.std.proofs.Common.{◌≡◌, ◌∙◌, ℕ, List, [], ◌∷◌, Option, Some, None, refl, ap, codes, false, bytes_eq}
use Rattle.std.specs.Option.{option_and_then, option_map}
use Rattle.serde_json.specs.Data.{Data, string, array, object, Members, no_members, put}
use Rattle.serde_json.specs.Find.{get, get_member}
use Rattle.kapi_model.specs.declared.aggregation_rule.AggregationRule.{AggregationRule}
use Rattle.kapi_model.specs.declared.policy_rule.PolicyRule.{PolicyRule}
use Rattle.kapi_model.specs.declared.role_ref.RoleRef.{RoleRef}
use Rattle.kapi_model.specs.declared.row.Schema.TheVariants as schema
use Rattle.kapi_model.specs.declared.selector.Selector.{Selector}
use Rattle.kapi_model.specs.declared.subject.Subject.{Subject}
use Rattle.kapi_object.specs.Contents.{items_if, list_value, read_items, write_items, content_of, rule_of, rule_tree, rules_of, role_content, aggregation_of, aggregation_tree, aggregation_in, cluster_role_content, subject_of, subject_tree, subjects_of, role_ref_if, role_ref_of, role_ref_tree, binding_content}
use Rattle.kapi_object.specs.Tree.{put_if, with_content, with_metadata, unless_null}
use Rattle.kapi_object.proofs.Puts.{put_if_other, put_items_same, list_round}
use Rattle.kapi_object.specs.Admission.{version_of}
use Rattle.kapi_rbac_types.proofs.RoundTrips.{rule_round, subject_round, role_ref_round}
use Rattle.kapi_rbac_types.proofs.Selectors.{selectors_round, selectors_stable}
use Rattle.kapi_rbac_types.specs.Laws.{IsKept, IsOrdered}
use Rattle.kapi_rbac_types.specs.Trees.{role_of, role_binding_of, cluster_role_binding_of, cluster_role_of}
use Rattle.kapi_model.specs.declared.binding.ClusterRoleBinding.{ClusterRoleBinding}
use Rattle.kapi_model.specs.declared.binding.RoleBinding.{RoleBinding}
use Rattle.kapi_model.specs.declared.role.ClusterRole.{ClusterRole}
use Rattle.kapi_model.specs.declared.role.Role.{Role}

-- ---- what is written is read

-- the members of the content are found in the object
content_at : (q : List ℕ) (content : Members) (tree : Data) → bytes_eq q (codes "metadata") ≡ false → bytes_eq q (codes "kind") ≡ false → bytes_eq q (codes "apiVersion") ≡ false
    → get q (with_content content tree) ≡ get_member q content
unfolding with_content
content_at q content tree hm hk ha =
    put_if_other q (codes "metadata") (get (codes "metadata") tree) (put_if (codes "kind") (get (codes "kind") tree) (put_if (codes "apiVersion") (get (codes "apiVersion") tree) content)) hm
    ∙ put_if_other q (codes "kind") (get (codes "kind") tree) (put_if (codes "apiVersion") (get (codes "apiVersion") tree) content) hk
    ∙ put_if_other q (codes "apiVersion") (get (codes "apiVersion") tree) content ha

rules_round : (rules : List PolicyRule) → read_items rule_of (write_items rule_tree rules) ≡ rules
rules_round rules = list_round rule_of rule_tree rule_round rules

pub role_reads_back : (r : Role) (tree : Data) → role_of (with_content (role_content r.rules) tree) ≡ r
role_reads_back r tree =
    let of_rules : List PolicyRule → Role = λ rules. record { rules = rules } in
    ap (λ o. of_rules (read_items rule_of (items_if (option_and_then unless_null o)))) (content_at (codes "rules") (role_content r.rules) tree refl refl refl)
    ∙ ap of_rules (rules_round r.rules)

subjects_round : (subjects : List Subject) (r : RoleRef) (tree : Data) → subjects_of (with_content (binding_content subjects r) tree) ≡ subjects
subjects_round subjects r tree =
    ap (λ o. read_items subject_of (items_if (option_and_then unless_null o))) (content_at (codes "subjects") (binding_content subjects r) tree refl refl refl)
    ∙ ap (read_items subject_of) (put_items_same (codes "subjects") (write_items subject_tree subjects) (put (codes "roleRef") (role_ref_tree r) no_members) refl)
    ∙ list_round subject_of subject_tree subject_round subjects

ref_round : (subjects : List Subject) (r : RoleRef) (tree : Data) → role_ref_of (with_content (binding_content subjects r) tree) ≡ r
unfolding role_ref_tree
ref_round subjects r tree =
    ap (λ o. role_ref_if (option_and_then unless_null o)) (
    content_at (codes "roleRef") (binding_content subjects r) tree refl refl refl
    ∙ put_if_other (codes "roleRef") (codes "subjects") (list_value (write_items subject_tree subjects)) (put (codes "roleRef") (role_ref_tree r) no_members) refl
    )
    ∙ role_ref_round r

pub role_binding_reads_back : (b : RoleBinding) (tree : Data) → role_binding_of (with_content (binding_content b.subjects b.role_ref) tree) ≡ b
role_binding_reads_back b tree = rw (subjects_round b.subjects b.role_ref tree, ref_round b.subjects b.role_ref tree) refl

pub cluster_role_binding_reads_back : (b : ClusterRoleBinding) (tree : Data)
    → cluster_role_binding_of (with_content (binding_content b.subjects b.role_ref) tree) ≡ b
cluster_role_binding_reads_back b tree = rw (subjects_round b.subjects b.role_ref tree, ref_round b.subjects b.role_ref tree) refl

aggregation_round : (o : Option AggregationRule) (rules : List PolicyRule) (tree : Data) → IsOrdered o → aggregation_in (with_content (cluster_role_content o rules) tree) ≡ o
unfolding aggregation_tree
aggregation_round None rules tree h =
    ap (λ d. option_map aggregation_of (option_and_then unless_null d)) (content_at (codes "aggregationRule") (cluster_role_content None rules) tree refl refl refl)
aggregation_round (Some rule) rules tree h =
    ap (λ d. option_map aggregation_of (option_and_then unless_null d)) (content_at (codes "aggregationRule") (cluster_role_content (Some rule) rules) tree refl refl refl)
    ∙ (let of_selectors : List Selector → Option AggregationRule = λ ss. Some (record { cluster_role_selectors = ss }) in ap of_selectors (selectors_round rule.cluster_role_selectors h))

found_rules : (o : Option AggregationRule) (rules : List PolicyRule) → get_member (codes "rules") (cluster_role_content o rules) ≡ Some (array (write_items rule_tree rules))
found_rules None rules = refl
found_rules (Some rule) rules = refl

cluster_rules_round : (o : Option AggregationRule) (rules : List PolicyRule) (tree : Data) → rules_of (with_content (cluster_role_content o rules) tree) ≡ rules
cluster_rules_round o rules tree =
    ap (λ d. read_items rule_of (items_if (option_and_then unless_null d))) (content_at (codes "rules") (cluster_role_content o rules) tree refl refl refl ∙ found_rules o rules)
    ∙ rules_round rules

pub cluster_role_reads_back : (r : ClusterRole) (tree : Data) → IsOrdered r.aggregation_rule → cluster_role_of (with_content (cluster_role_content r.aggregation_rule r.rules) tree) ≡ r
cluster_role_reads_back r tree h = rw (aggregation_round r.aggregation_rule r.rules tree h, cluster_rules_round r.aggregation_rule r.rules tree) refl

-- ---- what was read is written

-- an object of a kind, a version and a metadata that has some content
abbrev whole : List ℕ → List ℕ → Members → Members → Data
whole kind version ms content = with_metadata ms (object (put (codes "kind") (string kind) (put (codes "apiVersion") (string version) content)))

role_back : (kind version : List ℕ) (ms : Members) (rules : List PolicyRule)
    → (let tree = whole kind version ms (role_content rules) in with_content (role_content (rules_of tree)) tree ≡ tree)
unfolding with_content
role_back kind version ms rules = rw (rules_round rules) refl

pub role_writes_back : (tree : Data) → IsKept schema.Role tree → with_content (role_content (rules_of tree)) tree ≡ tree
unfolding content_of
role_writes_back tree (row, body, ms, is, kept) = rw (kept, is) (role_back row.kind (version_of row) ms (rules_of body))

cluster_role_back : (kind version : List ℕ) (ms : Members) (o : Option AggregationRule) (rules : List PolicyRule)
    → (let tree = whole kind version ms (cluster_role_content o rules) in with_content (cluster_role_content (aggregation_in tree) (rules_of tree)) tree ≡ tree)
unfolding with_content aggregation_tree
cluster_role_back kind version ms None rules = rw (rules_round rules) refl
cluster_role_back kind version ms (Some r) rules = rw (rules_round rules, selectors_stable r.cluster_role_selectors) refl

pub cluster_role_writes_back : (tree : Data) → IsKept schema.ClusterRole tree → with_content (cluster_role_content (aggregation_in tree) (rules_of tree)) tree ≡ tree
unfolding content_of
cluster_role_writes_back tree (row, body, ms, is, kept) = rw (kept, is) (cluster_role_back row.kind (version_of row) ms (aggregation_in body) (rules_of body))

-- what binds these subjects to the role
abbrev bound : List ℕ → List ℕ → Members → List Subject → RoleRef → Data
bound kind version ms subjects r = whole kind version ms (binding_content subjects r)

binding_back : (kind version : List ℕ) (ms : Members) (subjects : List Subject) (r : RoleRef)
    → (let tree = bound kind version ms subjects r in with_content (binding_content (subjects_of tree) (role_ref_of tree)) tree ≡ tree)
unfolding with_content role_ref_tree
binding_back kind version ms [] r = ap (λ q. with_content (binding_content [] q) (bound kind version ms [] r)) (role_ref_round r)
binding_back kind version ms (s ∷ ss) r =
    let tree : Data = bound kind version ms (s ∷ ss) r in
    ap (λ q. with_content (binding_content (subjects_of tree) q) tree) (role_ref_round r)
    ∙ ap (λ subjects. with_content (binding_content subjects r) tree) (list_round subject_of subject_tree subject_round (s ∷ ss))

pub role_binding_writes_back : (tree : Data) → IsKept schema.RoleBinding tree → with_content (binding_content (subjects_of tree) (role_ref_of tree)) tree ≡ tree
unfolding content_of
role_binding_writes_back tree (row, body, ms, is, kept) = rw (kept, is) (binding_back row.kind (version_of row) ms (subjects_of body) (role_ref_of body))

pub cluster_role_binding_writes_back : (tree : Data) → IsKept schema.ClusterRoleBinding tree
    → with_content (binding_content (subjects_of tree) (role_ref_of tree)) tree ≡ tree
unfolding content_of
cluster_role_binding_writes_back tree (row, body, ms, is, kept) = rw (kept, is) (binding_back row.kind (version_of row) ms (subjects_of body) (role_ref_of body))
