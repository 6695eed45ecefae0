-- What is kept of a tree whose metadata were taken out of it.
use Rattle.std.proofs.Common.{◌≡◌, ◌∙◌, ℕ, List, Some, true, false, bytes_eq, codes, option_map, refl, ap}
use Rattle.std.specs.Option.{option_and_then}
use Rattle.serde_json.specs.Data.{Data, string, object, Members, put}
use Rattle.serde_json.specs.Find.{get_member}
use Rattle.kapi_model.specs.declared.row.Schema.{Schema}
use Rattle.kapi_model.specs.declared.row.Schema.TheVariants.{Open, Role, ClusterRole, RoleBinding, ClusterRoleBinding}
use Rattle.kapi_object.proofs.SetTexts.{in_object}
use Rattle.kapi_object.proofs.Ordered.{keys_in_order}
use Rattle.kapi_object.proofs.Removal.{get_without, members_are_in_order, put_back, put_without}
use Rattle.kapi_object.specs.Contents.{aggregation_of, binding_content, cluster_role_content, content_of, items_if, read_items, role_content, role_ref_if, role_ref_of, rule_of, subject_of, subjects_of}
use Rattle.kapi_object.specs.Order.{in_order, is_ordered}
use Rattle.kapi_object.specs.Tree.{member_of, members_or_none, unless_null, without}

-- another member of a tree without its metadata
beside : (q : List ℕ) (tree : Data) → bytes_eq q (codes "metadata") ≡ false
    → option_and_then unless_null (get_member q (without (codes "metadata") (members_or_none (Some tree)))) ≡ member_of q tree
beside q tree h = ap (option_and_then unless_null) (get_without q (codes "metadata") (members_or_none (Some tree)) h ∙ in_object q tree)

-- the members with version, kind and metadata
abbrev filled_with : List ℕ → List ℕ → Data → Members → Members
filled_with kind version d ms = put (codes "metadata") d (put (codes "kind") (string kind) (put (codes "apiVersion") (string version) ms))

-- what is kept of a binding
bound : (kind version : List ℕ) (d tree : Data)
    → let rest : Data = object (without (codes "metadata") (members_or_none (Some tree))) in
    filled_with kind version d (binding_content (subjects_of rest) (role_ref_of rest)) ≡ filled_with kind version d (binding_content (subjects_of tree) (role_ref_of tree))
bound kind version d tree =
    let rest : Data = object (without (codes "metadata") (members_or_none (Some tree))) in
    ap (λ o. filled_with kind version d (binding_content (read_items subject_of (items_if o)) (role_ref_of rest))) (beside (codes "subjects") tree refl)
    ∙ ap (λ o. filled_with kind version d (binding_content (subjects_of tree) (role_ref_if o))) (beside (codes "roleRef") tree refl)

-- what is kept beside the metadata is the same where they were taken out before
pub content_beside : (schema : Schema) (kind version : List ℕ) (d tree : Data) → is_ordered tree ≡ true
    → filled_with kind version d (content_of schema (object (without (codes "metadata") (members_or_none (Some tree))))) ≡ filled_with kind version d (content_of schema tree)
unfolding content_of
content_beside Open kind version d tree h =
    let m : List ℕ = codes "metadata" in
    let ms : Members = members_or_none (Some tree) in
    let ordered : in_order ms ≡ true = members_are_in_order tree h in
    let first : Members = put (codes "apiVersion") (string version) ms in
    let first_ordered : in_order first ≡ true = keys_in_order.with_member 0 (codes "apiVersion") (string version) ms refl ordered in
    let both : Members = put (codes "kind") (string kind) first in
    let both_ordered : in_order both ≡ true = keys_in_order.with_member 0 (codes "kind") (string kind) first refl first_ordered in
    ap (λ x. put m d (put (codes "kind") (string kind) x)) (put_without m (codes "apiVersion") (string version) ms ordered refl)
    ∙ ap (put m d) (put_without m (codes "kind") (string kind) first first_ordered refl)
    ∙ put_back m d both both_ordered
content_beside Role kind version d tree h =
    ap (λ o. filled_with kind version d (role_content (read_items rule_of (items_if o)))) (beside (codes "rules") tree refl)
content_beside ClusterRole kind version d tree h =
    let rest : Data = object (without (codes "metadata") (members_or_none (Some tree))) in
    ap (λ o. filled_with kind version d (cluster_role_content (option_map aggregation_of o) (read_items rule_of (items_if (member_of (codes "rules") rest))))) (beside (codes "aggregationRule") tree refl)
    ∙ ap (λ o. filled_with kind version d (cluster_role_content (option_map aggregation_of (member_of (codes "aggregationRule") tree)) (read_items rule_of (items_if o)))) (beside (codes "rules") tree refl)
content_beside RoleBinding kind version d tree h = bound kind version d tree
content_beside ClusterRoleBinding kind version d tree h = bound kind version d tree
