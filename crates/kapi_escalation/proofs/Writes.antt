-- The policy that the objects are, after a write.
use Rattle.std.proofs.Common.{◌≡◌, List, [], ◌∷◌, ◌++◌, Option, None, Some, refl, sym, ap, ◌∙◌, subst}
use Rattle.std.specs.BTreeMap.{insert_entry}
use Rattle.std.specs.List.Sorted.{IsStrictlySortedBy}
use Rattle.std.specs.Map.{keys_of, remove_entry}
use Rattle.serde_json.specs.Data.{Data}
use Rattle.kapi_rbac_types.specs.Trees.{role_of, cluster_role_of, role_binding_of, cluster_role_binding_of}
use Rattle.kapi_policy.proofs.Sets.{put_keeps, delete_keeps}
use Rattle.kapi_policy.specs.Laws.{IsInOrder}
use Rattle.kapi_policy.specs.Objects.{PolicyObjects, applied, name_cmp, place_cmp, with_object, without_object}
use Rattle.kapi_policy.specs.declared.change.PolicyChange.{PolicyChange}
use Rattle.kapi_store.proofs.Keys.{key_total}
use Rattle.kapi_store.specs.Changes.{placed, placed_all}
use Rattle.kapi_store.specs.Keys.{key_cmp, is_key}
use Rattle.kapi_store.specs.Plain.{Plain, PlainChange, RefinesPlain, trees_left_by, written}
use Rattle.kapi_store.specs.State.{State}
use Rattle.kapi_store.specs.declared.key.Key.{Key}
use Rattle.kapi_escalation.proofs.Collected.{put_elsewhere, put_there, removed_elsewhere, removed_there, collected_in_order}
use Rattle.kapi_escalation.proofs.Places.{roles_ordered, role_bindings_ordered, cluster_roles_ordered, cluster_role_bindings_ordered}
use Rattle.kapi_escalation.specs.Kind.{place_of, policy_kind}
use Rattle.kapi_policy.specs.Steps.{after_changes}
use Rattle.kapi_escalation.specs.Reading.{changes_at, policy_changes, policy_objects, role_at, role_binding_at, cluster_role_at, cluster_role_binding_at, role_place, role_binding_place, cluster_role_place, cluster_role_binding_place}
use Rattle.kapi_escalation.specs.declared.kind.PolicyKind.{PolicyKind}
use Rattle.kapi_escalation.specs.declared.kind.PolicyKind.TheVariants as kind

-- an object is put
put_read : (k : Key) (tree : Data) (os : List (Key × Data)) → IsStrictlySortedBy key_cmp (keys_of os) → (o : Option PolicyKind) → policy_kind k ≡ o
    → policy_objects (insert_entry key_cmp os k tree) ≡ after_changes (changes_at o k (Some tree)) (policy_objects os)
unfolding policy_objects after_changes applied with_object
put_read k tree os h (Some kind.Role) at = λ i. record {
  roles = put_there role_place role_of place_cmp roles_ordered k (place_of k) tree (ap (λ o. role_at o k) at) os h i;
  cluster_roles = put_elsewhere cluster_role_place cluster_role_of k tree (ap (λ o. cluster_role_at o k) at) os i;
  role_bindings = put_elsewhere role_binding_place role_binding_of k tree (ap (λ o. role_binding_at o k) at) os i;
  cluster_role_bindings = put_elsewhere cluster_role_binding_place cluster_role_binding_of k tree (ap (λ o. cluster_role_binding_at o k) at) os i;
}
put_read k tree os h (Some kind.RoleBinding) at = λ i. record {
  roles = put_elsewhere role_place role_of k tree (ap (λ o. role_at o k) at) os i;
  cluster_roles = put_elsewhere cluster_role_place cluster_role_of k tree (ap (λ o. cluster_role_at o k) at) os i;
  role_bindings = put_there role_binding_place role_binding_of place_cmp role_bindings_ordered k (place_of k) tree (ap (λ o. role_binding_at o k) at) os h i;
  cluster_role_bindings = put_elsewhere cluster_role_binding_place cluster_role_binding_of k tree (ap (λ o. cluster_role_binding_at o k) at) os i;
}
put_read k tree os h (Some kind.ClusterRole) at = λ i. record {
  roles = put_elsewhere role_place role_of k tree (ap (λ o. role_at o k) at) os i;
  cluster_roles = put_there cluster_role_place cluster_role_of name_cmp cluster_roles_ordered k (k.name) tree (ap (λ o. cluster_role_at o k) at) os h i;
  role_bindings = put_elsewhere role_binding_place role_binding_of k tree (ap (λ o. role_binding_at o k) at) os i;
  cluster_role_bindings = put_elsewhere cluster_role_binding_place cluster_role_binding_of k tree (ap (λ o. cluster_role_binding_at o k) at) os i;
}
put_read k tree os h (Some kind.ClusterRoleBinding) at = λ i. record {
  roles = put_elsewhere role_place role_of k tree (ap (λ o. role_at o k) at) os i;
  cluster_roles = put_elsewhere cluster_role_place cluster_role_of k tree (ap (λ o. cluster_role_at o k) at) os i;
  role_bindings = put_elsewhere role_binding_place role_binding_of k tree (ap (λ o. role_binding_at o k) at) os i;
  cluster_role_bindings = put_there cluster_role_binding_place cluster_role_binding_of name_cmp cluster_role_bindings_ordered k (k.name) tree (ap (λ o. cluster_role_binding_at o k) at) os h i;
}
put_read k tree os h None at = λ i. record {
  roles = put_elsewhere role_place role_of k tree (ap (λ o. role_at o k) at) os i;
  cluster_roles = put_elsewhere cluster_role_place cluster_role_of k tree (ap (λ o. cluster_role_at o k) at) os i;
  role_bindings = put_elsewhere role_binding_place role_binding_of k tree (ap (λ o. role_binding_at o k) at) os i;
  cluster_role_bindings = put_elsewhere cluster_role_binding_place cluster_role_binding_of k tree (ap (λ o. cluster_role_binding_at o k) at) os i;
}

-- an object is removed
removed_read : (k : Key) (os : List (Key × Data)) → (o : Option PolicyKind) → policy_kind k ≡ o
    → policy_objects (remove_entry (is_key k) os) ≡ after_changes (changes_at o k None) (policy_objects os)
unfolding policy_objects after_changes applied without_object
removed_read k os (Some kind.Role) at = λ i. record {
  roles = removed_there role_place role_of place_cmp roles_ordered k (place_of k) (ap (λ o. role_at o k) at) os i;
  cluster_roles = removed_elsewhere cluster_role_place cluster_role_of k (ap (λ o. cluster_role_at o k) at) os i;
  role_bindings = removed_elsewhere role_binding_place role_binding_of k (ap (λ o. role_binding_at o k) at) os i;
  cluster_role_bindings = removed_elsewhere cluster_role_binding_place cluster_role_binding_of k (ap (λ o. cluster_role_binding_at o k) at) os i;
}
removed_read k os (Some kind.RoleBinding) at = λ i. record {
  roles = removed_elsewhere role_place role_of k (ap (λ o. role_at o k) at) os i;
  cluster_roles = removed_elsewhere cluster_role_place cluster_role_of k (ap (λ o. cluster_role_at o k) at) os i;
  role_bindings = removed_there role_binding_place role_binding_of place_cmp role_bindings_ordered k (place_of k) (ap (λ o. role_binding_at o k) at) os i;
  cluster_role_bindings = removed_elsewhere cluster_role_binding_place cluster_role_binding_of k (ap (λ o. cluster_role_binding_at o k) at) os i;
}
removed_read k os (Some kind.ClusterRole) at = λ i. record {
  roles = removed_elsewhere role_place role_of k (ap (λ o. role_at o k) at) os i;
  cluster_roles = removed_there cluster_role_place cluster_role_of name_cmp cluster_roles_ordered k (k.name) (ap (λ o. cluster_role_at o k) at) os i;
  role_bindings = removed_elsewhere role_binding_place role_binding_of k (ap (λ o. role_binding_at o k) at) os i;
  cluster_role_bindings = removed_elsewhere cluster_role_binding_place cluster_role_binding_of k (ap (λ o. cluster_role_binding_at o k) at) os i;
}
removed_read k os (Some kind.ClusterRoleBinding) at = λ i. record {
  roles = removed_elsewhere role_place role_of k (ap (λ o. role_at o k) at) os i;
  cluster_roles = removed_elsewhere cluster_role_place cluster_role_of k (ap (λ o. cluster_role_at o k) at) os i;
  role_bindings = removed_elsewhere role_binding_place role_binding_of k (ap (λ o. role_binding_at o k) at) os i;
  cluster_role_bindings = removed_there cluster_role_binding_place cluster_role_binding_of name_cmp cluster_role_bindings_ordered k (k.name) (ap (λ o. cluster_role_binding_at o k) at) os i;
}
removed_read k os None at = λ i. record {
  roles = removed_elsewhere role_place role_of k (ap (λ o. role_at o k) at) os i;
  cluster_roles = removed_elsewhere cluster_role_place cluster_role_of k (ap (λ o. cluster_role_at o k) at) os i;
  role_bindings = removed_elsewhere role_binding_place role_binding_of k (ap (λ o. role_binding_at o k) at) os i;
  cluster_role_bindings = removed_elsewhere cluster_role_binding_place cluster_role_binding_of k (ap (λ o. cluster_role_binding_at o k) at) os i;
}

-- one change is made
pub placed_read : (k : Key) (left : Option Data) (os : List (Key × Data)) → IsStrictlySortedBy key_cmp (keys_of os)
    → policy_objects (placed k left os) ≡ after_changes (changes_at (policy_kind k) k left) (policy_objects os)
unfolding placed
placed_read k (Some tree) os h = put_read k tree os h (policy_kind k) refl
placed_read k None os h = removed_read k os (policy_kind k) refl

-- the keys are in order after a change
pub placed_keeps : (k : Key) (left : Option Data) (os : List (Key × Data)) → IsStrictlySortedBy key_cmp (keys_of os) → IsStrictlySortedBy key_cmp (keys_of (placed k left os))
unfolding placed
placed_keeps k (Some tree) os h = put_keeps key_cmp key_total os k tree h
placed_keeps k None os h = delete_keeps key_cmp key_total (is_key k) os h

-- one change after the other
changes_apart : (o : Option PolicyKind) (k : Key) (left : Option Data) (cs : List PolicyChange) (objects : PolicyObjects)
    → after_changes (changes_at o k left ++ cs) objects ≡ after_changes cs (after_changes (changes_at o k left) objects)
unfolding after_changes
changes_apart None k left cs objects = refl
changes_apart (Some of) k left cs objects = refl

-- the policy after a write is the one before with the write's policy changes
pub policy_after : (cs : List PlainChange) (os : List (Key × Data)) → IsStrictlySortedBy key_cmp (keys_of os)
    → policy_objects (placed_all (trees_left_by cs) os) ≡ after_changes (policy_changes cs) (policy_objects os)
unfolding placed_all policy_changes after_changes
policy_after [] os h = refl
policy_after (c ∷ cs) os h =
    policy_after cs (placed c.key c.new os) (placed_keeps c.key c.new os h)
    ∙ ap (after_changes (policy_changes cs)) (placed_read c.key c.new os h)
    ∙ sym (changes_apart (policy_kind c.key) c.key c.new (policy_changes cs) (policy_objects os))

-- the policy after a write is in the order of its names
pub policy_in_order : (os : List (Key × Data)) → IsStrictlySortedBy key_cmp (keys_of os) → IsInOrder (policy_objects os)
unfolding policy_objects
policy_in_order os h = record {
  roles = collected_in_order role_place role_of place_cmp roles_ordered os h;
  cluster_roles = collected_in_order cluster_role_place cluster_role_of name_cmp cluster_roles_ordered os h;
  role_bindings = collected_in_order role_binding_place role_binding_of place_cmp role_bindings_ordered os h;
  cluster_role_bindings = collected_in_order cluster_role_binding_place cluster_role_binding_of name_cmp cluster_role_bindings_ordered os h;
}

-- keys stay in order through changes
pub placed_all_keeps : (ws : List (Key × Option Data)) (os : List (Key × Data)) → IsStrictlySortedBy key_cmp (keys_of os) → IsStrictlySortedBy key_cmp (keys_of (placed_all ws os))
unfolding placed_all
placed_all_keeps [] os h = h
placed_all_keeps (w ∷ ws) os h = placed_all_keeps ws (placed w.0 w.1 os) (placed_keeps w.0 w.1 os h)

-- the objects of a store are in the order of their keys
pub stands_in_order : (s : State) (history : List PlainChange) (p : Plain) → RefinesPlain s history p → IsStrictlySortedBy key_cmp (keys_of p.objects)
unfolding IsStrictlySortedBy
stands_in_order s history p stands =
    let P : List (Key × Data) → Type 0 = λ os. IsStrictlySortedBy key_cmp (keys_of os) in
    subst P (sym stands.made) (placed_all_keeps (trees_left_by history) [] tt)

-- the policy that a store's objects are is kept by the write and its policy changes
pub policy_written : (s : State) (history changes : List PlainChange) (p : Plain) (old new : PolicyObjects) → RefinesPlain s history p
    → old ≡ policy_objects p.objects → new ≡ after_changes (policy_changes changes) old → new ≡ policy_objects (written changes p).objects
policy_written s history changes p old new stands before made =
    made ∙ ap (after_changes (policy_changes changes)) before ∙ sym (policy_after changes p.objects (stands_in_order s history p stands))
